-- What the kernel's tables of places may hold, what they answer, and what the calls leave in them.
pub mod Tables
pub mod Hits
pub mod Changes
