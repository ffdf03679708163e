-- What stands in a page for a run of instructions, and the making of its pieces.
pub mod Standing
pub mod Runs
pub mod CodePages
pub mod Drafts
pub mod Remaking
