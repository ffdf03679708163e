mod CutLaws
mod OperandLaws
mod LineLaws
mod FirstPassLaws
mod SecondPassLaws
mod SizeLaws
mod WordLaws
pub mod OneImage
mod WorkedRows
mod WorkedTexts
