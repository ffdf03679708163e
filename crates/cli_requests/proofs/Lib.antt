-- Lemmas on what the text of a command asks for.
pub mod OneJob
pub mod Judging
pub mod Reasons
