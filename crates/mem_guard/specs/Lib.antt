-- The guarded space.
pub mod Guarded
pub mod Readiness
pub mod Bus
pub mod Left
pub mod AtHand
