-- The lemmas of this crate, by subject.
pub mod Nodes
pub mod Offers
pub mod Chains
pub mod Turns
pub mod Pops
pub mod Settles
pub mod Spreads
pub mod Renamed
pub mod Prices
