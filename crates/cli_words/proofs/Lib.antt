-- Lemmas on the words of a command line.
pub mod FirstWord
pub mod NumberWords
pub mod NumberChoices
pub mod OneCommand
pub mod WorkedWords
