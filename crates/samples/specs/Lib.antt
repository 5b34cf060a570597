-- The definitions that the contracts of this crate cite.
pub mod Putting
pub mod Told
pub mod Running
pub mod Shapes
pub mod Filling
