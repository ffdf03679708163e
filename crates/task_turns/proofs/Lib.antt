mod WorkedTurns
pub mod Isolation
pub mod Ending
pub mod Crossings
pub mod OwnPrograms
