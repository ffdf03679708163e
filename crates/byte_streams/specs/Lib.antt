-- What streams do.
pub mod Faults
pub mod Streams
