-- All that the program prints, but the HEX text of a source and the dump of a flash: a file for each kind of text.
pub mod DeviceLines
pub mod Ends
pub mod StopLines
pub mod TaskTexts
pub mod Counts
pub mod RestartLines
pub mod Verdicts
pub mod FaultyLines
pub mod PlainLines
pub mod Gathering
