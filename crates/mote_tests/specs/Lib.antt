-- What the bus of the tests stands for.
pub mod SmallSpace
