-- Lemmas on the physical space, and laws for the layers above.
mod Steps
mod WorkedSteps
pub mod NeverStops
pub mod OneOutcome
pub mod StepsByAnswer
pub mod QuietMemory
pub mod QuietCore
pub mod DeviceAsks
