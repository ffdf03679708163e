-- Laws of pages of rewritten code.
pub mod HeldLaws
pub mod StayLaws
pub mod LinkLaws
pub mod PlaceLaws
pub mod FaithfulLaws
pub mod EnteredLaws
mod GrowLaws
pub mod DraftedLaws
pub mod MadeLaws
pub mod TwoWords
pub mod KeptLaws
pub mod RelinkLaws
pub mod PartLaws
pub mod UsedLaws
pub mod OnePage
pub mod UnlinkLaws
mod PatchLaws
pub mod WalkLaws
mod CountLaws
pub mod DecodedLaws
mod OwnLaws
