-- The lemmas of this crate, by subject.
pub mod Ranges
pub mod Nodes
pub mod Marks
pub mod Joined
pub mod Firsts
pub mod Order
pub mod Left
pub mod Written
pub mod Moved
pub mod Exact
