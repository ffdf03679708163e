-- Lemmas on the guarded space.
mod HeapLaws
pub mod Alike
pub mod Leaves
pub mod LineLaws
pub mod FlatCalls
pub mod GuardedStep
pub mod AtReset
mod AtHandLaws
