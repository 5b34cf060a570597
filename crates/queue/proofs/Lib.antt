-- The lemmas that the answers cite.
pub mod Sifts
pub mod Held
