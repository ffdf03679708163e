mod Tables
mod Searches
pub mod FrameLaws
mod WriteLaws
mod EntryLaws
mod BackLaws
pub mod HeapBytes
mod ReplaceLaws
mod PutLaws
mod GivenLaws
pub mod MemoryLaws
mod SeatLaws
pub mod LoadLaws
pub mod StoreLaws
mod HitLaws
pub mod SamePagingLaws
pub mod BootLaws
pub mod CountLaws
