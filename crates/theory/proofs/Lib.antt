-- The lemmas of this crate, by subject.
pub mod Runs
pub mod Texts
pub mod Tables
pub mod Grammar
pub mod Costs
pub mod Closing
pub mod Settling
pub mod Stages
pub mod Books
pub mod Priced
pub mod Symbols
pub mod Spelling
pub mod Listings
pub mod Pinned
pub mod Deciding
pub mod Examples
