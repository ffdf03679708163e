pub mod TableLaws
pub mod EntryLaws
pub mod NoteLaws
pub mod FindLaws
pub mod ForgetLaws
pub mod ForgottenLaws
mod WorkedValues
