-- Lemmas on the lines of a script of several tasks, and on its first fault; and scripts with what they schedule.
pub mod OwnLines
mod OwnTexts
mod Naming
pub mod FirstFaults
mod WorkedScripts
mod TextAgreement
