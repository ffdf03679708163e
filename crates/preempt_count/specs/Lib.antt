-- The count of crossings before the next checkpoint.
pub mod Counting
