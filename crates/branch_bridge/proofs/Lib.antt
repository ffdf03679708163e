pub mod PerformLaws
pub mod UnresolveLaws
pub mod UpToLaws
pub mod ResolveLaws
pub mod RecycleLaws
pub mod MakeLaws
pub mod ErasedLaws
mod SurveyLaws
pub mod ThroughLaws
mod KnownLaws
pub mod TriedLaws
pub mod ArrivalLaws
pub mod RestLaws
pub mod PartLaws
mod EntriesKept
