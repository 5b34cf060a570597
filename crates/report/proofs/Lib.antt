-- The lemmas of this crate, by subject.
mod Rows
