-- What the run loop leaves, from one step to a whole run.
pub mod RunSoFar
pub mod Advancing
pub mod Gathered
pub mod Booting
pub mod WholeRun
pub mod InTurn
mod Putting
