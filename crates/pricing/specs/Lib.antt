-- The definitions that the contracts of this crate cite.
pub mod Nodes
pub mod Chains
pub mod Offers
pub mod Settling
pub mod Told
