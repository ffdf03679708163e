pub mod Laws
pub mod CellLaws
pub mod BootLaws
pub mod PartLaws
pub mod RegionLaws
