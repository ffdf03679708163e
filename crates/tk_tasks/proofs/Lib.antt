mod Booting
pub mod Paths
mod Trials
pub mod Changing
mod Starting
pub mod Keeping
mod Playing
pub mod Telling
mod Runs
pub mod InTurn
pub mod Stints
pub mod FirstPlayers
