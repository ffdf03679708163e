-- The ways through inline templates, step by step.
pub mod Rows
pub mod InlineWays
