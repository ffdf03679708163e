-- Laws of a flash that is checked page by page.
mod WidthLaws
mod FormLaws
pub mod MovedLaws
pub mod CheckedLaws
mod LinkTests
pub mod Judgement
