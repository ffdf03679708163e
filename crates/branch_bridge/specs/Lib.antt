-- What resolving a stub changes, and what an arrival at an original address changes and answers.
pub mod Operating
pub mod Tried
pub mod Resolving
pub mod Unresolving
pub mod Arrivals
pub mod KnownPlaces
