-- Walks from one state.
pub mod OneWalk
