-- Lemmas on bytes that are known in part.
pub mod KnownBytes
mod EmptyStructs
