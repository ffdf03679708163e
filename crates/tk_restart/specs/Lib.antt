-- What a restart keeps of a code pool, and what flash then holds.
pub mod Keeping
pub mod Losing
pub mod Restarting
pub mod Strays
pub mod Sweeping
pub mod Unlinking
