-- The lemmas of this crate, by subject.
pub mod Fronts
pub mod ReadingSteps
pub mod ReadingLaws
pub mod ReadingLengths
pub mod ReadingVerdicts
pub mod Words
