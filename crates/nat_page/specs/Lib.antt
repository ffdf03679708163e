-- When a pool is faithful to its image, what making a page leaves, and which links call the kernel's bridge again.
pub mod Links
pub mod Entered
pub mod Parts
pub mod Faithful
pub mod Making
pub mod Used
pub mod Drafted
pub mod Drafts
pub mod Unlinking
