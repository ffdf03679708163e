-- The run of a program.
pub mod Running
pub mod Booted
pub mod Held
pub mod WholeRuns
pub mod Gathering
pub mod InTurn
