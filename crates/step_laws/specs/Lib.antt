-- The moves of a machine that runs rewritten code, and the law of each step.
pub mod Physically
pub mod Moves
pub mod Numbers
pub mod States
pub mod Walks
pub mod Links
pub mod Settings
pub mod StepLaws
pub mod InlineLaws
pub mod Joining
pub mod Bounds
pub mod ServiceRows
pub mod Outcomes
