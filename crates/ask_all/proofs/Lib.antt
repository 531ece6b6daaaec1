-- The laws that the proofs of this crate cite.
pub mod Sixes
pub mod Refusals
pub mod Own
pub mod Theorems
