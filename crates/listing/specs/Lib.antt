-- The definitions that the contracts of this crate cite.
pub mod Told
pub mod Nodes
pub mod Marking
pub mod Order
pub mod Steps
