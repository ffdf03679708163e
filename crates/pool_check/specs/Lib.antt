-- What a checker of flash says: of each page by itself, and of each page beside the others.
pub mod Forms
pub mod Links
pub mod Verdicts
