-- Laws of a restart.
mod CountLaws
mod BlankLaws
pub mod AroundLaws
mod StrayLaws
mod SweepLaws
mod PageLaws
mod UnlinkingLaws
pub mod KeepingLaws
mod RestartLaws
pub mod TornWords
