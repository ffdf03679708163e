-- Lemmas on lines, places and texts.
pub mod LineLemmas
pub mod PlaceLemmas
pub mod ReadingLemmas
pub mod TextLemmas
pub mod LawLemmas
mod LineAgreement
mod TextAgreement
pub mod WrittenLemmas
pub mod BackLemmas
pub mod Worked
