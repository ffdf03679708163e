pub mod Decoding
pub mod Program
