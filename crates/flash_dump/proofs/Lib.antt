-- Laws of dumps, read and written.
mod DumpLineLaws
mod DumpLaws
mod WrittenLaws
mod DumpBack
mod LineAgreement
mod TextAgreement
mod WorkedDumps
pub mod Judgement
pub mod ErasedLaws
