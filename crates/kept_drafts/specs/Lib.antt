-- What is kept of a page that was drafted, and when it is the page that would be drafted anew.
pub mod Keeping
