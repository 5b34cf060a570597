-- The definitions that the contracts of this crate cite.
pub mod Names
pub mod Builds
pub mod Equality
pub mod Fronts
pub mod Tables
pub mod Costs
pub mod Steps
pub mod Stages
pub mod Statements
pub mod Books
pub mod Spelling
pub mod Productions
pub mod Calls
pub mod Pinned
pub mod Examples
