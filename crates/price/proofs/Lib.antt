-- The lemmas that the answers cite.
pub mod Finding
pub mod Lists
pub mod Prices
pub mod Shortages
pub mod Rules
