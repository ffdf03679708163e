pub mod Code
pub mod DecodeCache
pub mod DecodedPairs
pub mod MicroOps
