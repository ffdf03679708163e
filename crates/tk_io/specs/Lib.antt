-- The states of streams in memory.
pub mod Memory
