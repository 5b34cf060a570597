-- The definitions that the contracts of this crate cite.
pub mod Numbers
pub mod Forms
pub mod Fields
pub mod Judging
pub mod Verdicts
pub mod Records
pub mod Lines
pub mod Taking
pub mod Faults
