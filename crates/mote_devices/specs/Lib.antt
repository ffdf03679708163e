-- The devices as plain data, and what a program's accesses do to it.
pub mod Registers
pub mod Inputs
pub mod Queue
pub mod State
pub mod Accesses
pub mod Waking
