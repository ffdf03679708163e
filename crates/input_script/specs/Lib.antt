pub mod Grammar
pub mod Script
pub mod Judging
pub mod GrammarLaw
