-- Texts of Intel HEX, and the images that they give.
pub mod Image
pub mod Lines
pub mod Places
pub mod HexText
pub mod Written
pub mod Reading
pub mod Kinds
pub mod Laws
pub mod GrammarLaw
