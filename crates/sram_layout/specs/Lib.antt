pub mod Bytes
pub mod Cells
pub mod Boot
pub mod Regions
