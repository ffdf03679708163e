pub mod Parkings
pub mod Sums
pub mod TaskLists
pub mod NextTasks
pub mod Waiting
mod Booting
mod Arrivals
