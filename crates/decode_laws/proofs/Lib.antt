pub mod Decoded
pub mod Lengths
mod Bounds
mod Complete
mod Leading
mod Own
mod Sound
mod Tables
