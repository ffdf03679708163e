pub mod MapLaws
pub mod EntryLaws
pub mod ChangeLaws
mod KnownLaws
mod HeadLaws
