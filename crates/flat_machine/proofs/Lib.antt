-- Lemmas on the flat machine.
mod WorkedRows
mod WorkedPrograms
pub mod MachineLaws
pub mod PartLaws
mod WorkedParts
pub mod ClassLaws
pub mod ReadLaws
