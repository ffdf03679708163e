-- Laws of pieces in a row, of runs, and of drafts.
pub mod PieceLaws
mod Widths
pub mod RunLaws
mod WidthLaws
mod DraftLaws
pub mod StartLaws
pub mod PageWords
mod RemakeLaws
