-- The lemmas of this crate, by subject.
pub mod Decimals
pub mod Places
pub mod Splits
pub mod Judges
pub mod Heads
pub mod LineSplits
pub mod LineTexts
pub mod Verdicts
