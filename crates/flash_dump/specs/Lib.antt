-- What a dump of flash is, and which one is written.
pub mod DumpLines
pub mod Dumps
pub mod DumpAnswers
pub mod GrammarLaw
pub mod WrittenDumps
