-- The execution of one instruction over any memory.
pub mod Registers
pub mod Spaces
pub mod Arithmetic
pub mod Effects
pub mod Asks
pub mod Execution
pub mod Likeness
pub mod Kinds
pub mod StackRules
