-- The definitions that the contracts of this crate cite.
pub mod Reading
pub mod Causes
pub mod Kinds
pub mod Scanning
pub mod Citing
