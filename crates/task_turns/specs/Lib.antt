pub mod Turns
pub mod Quarters
pub mod Reset
pub mod Checkpoints
