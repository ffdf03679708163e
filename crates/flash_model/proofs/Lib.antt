mod Renewing
pub mod ImageLaws
pub mod UndecodedLaws
