-- The definitions that the contracts of this crate cite.
pub mod Laws
pub mod Stops
pub mod Finding
pub mod Lists
pub mod Prices
pub mod Shortages
pub mod Rules
