pub mod ManyLaws
pub mod Pieces
pub mod Numbers
pub mod Ranges
pub mod Searches
