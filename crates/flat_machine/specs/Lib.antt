-- The memory that a program sees, and the machine that it believes it runs on.
pub mod Addresses
pub mod Classes
pub mod FlatSpace
pub mod FlatMachine
pub mod Masked
