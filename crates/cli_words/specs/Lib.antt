-- What words ask for by themselves, and the jobs that they and an input can ask for.
pub mod Options
pub mod OptionReading
pub mod Commands
pub mod Status
pub mod Printed
pub mod Stream
