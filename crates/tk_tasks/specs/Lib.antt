pub mod States
pub mod Held
pub mod Booted
pub mod Changes
pub mod Plays
pub mod Trying
pub mod Running
pub mod InTurn
