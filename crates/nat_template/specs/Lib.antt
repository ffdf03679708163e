-- Shapes, stubs and templates of the rewritten form.
pub mod Shapes
pub mod Stubs
pub mod Inline
pub mod Templates
pub mod Words
