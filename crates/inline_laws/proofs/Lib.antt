-- The parts of inline templates, and each template.
pub mod Registers
pub mod Cells
pub mod Steps
pub mod Blocks
pub mod ThreeWays
pub mod PushLaw
pub mod PopLaw
pub mod FrameLaw
mod WorkedWays
