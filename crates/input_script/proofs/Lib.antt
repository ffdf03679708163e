-- Lemmas on lines and scripts, and lines with what they say.
pub mod Digits
mod Words
mod Order
pub mod Schedules
pub mod Done
pub mod EventLines
mod LineAgreement
mod TextAgreement
pub mod Judgement
mod WorkedLines
