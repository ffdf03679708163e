-- Laws of one counted step.
pub mod CountLaws
