-- The physical mote, and one AVR step over it.
pub mod Physical
pub mod Conditions
pub mod Shown
pub mod Step
pub mod QuietSteps
pub mod FastPath
