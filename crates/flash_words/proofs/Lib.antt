mod Programming
mod PageSetLaws
mod NextPageLaws
mod HeadLaws
mod JumpLaws
mod WorkedOperations
pub mod PageLaws
pub mod WordLaws
pub mod LoadedLaws
pub mod ProgramLaws
pub mod LayoutLaws
