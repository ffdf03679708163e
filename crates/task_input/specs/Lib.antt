-- The script and the image of several tasks.
pub mod Scripts
pub mod Reading
pub mod Images
pub mod GrammarLaw
