-- Lemmas on the devices' inputs, and laws for the layers above.
mod QueueLaws
mod PollLaws
mod WorkedValues
pub mod WakeLaws
mod RecursionLaws
pub mod AccessLaws
