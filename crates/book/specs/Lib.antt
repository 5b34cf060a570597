-- The definitions that the contracts of this crate cite.
pub mod Rows
pub mod Closing
pub mod Layout
pub mod Invariant
pub mod Entering
pub mod Changes
pub mod Answers
pub mod Held
