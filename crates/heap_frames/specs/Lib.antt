pub mod Frames
pub mod Memory
pub mod Paged
pub mod Paging
pub mod Changes
pub mod SamePaging
pub mod InFrame
