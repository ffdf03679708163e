-- What the arithmetic instructions of the AVR give, and what they do to the status register.
pub mod Status
pub mod Sums
pub mod Logic
pub mod Pairs
pub mod Products
