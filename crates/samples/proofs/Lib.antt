-- What the proofs of this crate share.
pub mod Runs
pub mod Asking
