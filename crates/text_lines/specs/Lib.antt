-- The lines of a text, and the pieces of printed lines.
pub mod Lines
pub mod Cutting
pub mod Written
pub mod Stripping
pub mod Faults
pub mod Pieces
