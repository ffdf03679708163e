-- The kernel's services.
pub mod Parts
pub mod Services
pub mod Interrupts
pub mod Conditions
pub mod Seen
pub mod Left
pub mod Rows
pub mod AtOnce
