-- The test program of each seed.
pub mod Generated
