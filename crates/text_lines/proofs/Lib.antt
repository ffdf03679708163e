pub mod CutLaws
pub mod TextLaws
pub mod StripLaws
mod DigitLaws
pub mod DigitTests
pub mod FaultLaws
pub mod WorkedTexts
