-- The maps of code pages, and the search for an original address.
pub mod Maps
pub mod Entries
pub mod Surveys
