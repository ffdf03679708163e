-- What follows of stop lines and of gathered texts, and texts at worked values.
pub mod StopLines
mod WorkedTexts
pub mod Gathered
