-- Steps of the program, and what they leave of a machine.
pub mod Machines
pub mod Wholes
pub mod Ready
pub mod Loop
pub mod Interrupts
pub mod Stepping
pub mod Several
pub mod Walking
pub mod Waiting
pub mod Stale
