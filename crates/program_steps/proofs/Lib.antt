-- What the calls leave.
pub mod Awaiting
pub mod Bounds
pub mod Told
pub mod Taking
pub mod Underway
pub mod Settling
pub mod Walking
pub mod ReadyLaws
pub mod Owning
mod Laws
pub mod Stepped
pub mod OutsideTables
pub mod Arriving
pub mod Arrived
pub mod Entered
pub mod TakingLaws
pub mod OneBehindOther
pub mod Undue
pub mod Leading
pub mod Waiting
pub mod Beginning
