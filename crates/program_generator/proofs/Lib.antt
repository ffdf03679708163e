-- Laws of the words of generated programs.
pub mod WordLaws
-- Worked programs.
mod WorkedValues
