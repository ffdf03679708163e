-- Laws of the services.
mod AtOnce
mod Answering
mod Running
pub mod LeftLaws
pub mod ShapeLaws
pub mod RowLaws
pub mod FaultLaws
pub mod ServedLaws
pub mod InterruptLaws
mod Sleeping
pub mod TakingRows
