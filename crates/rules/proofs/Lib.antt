-- The laws that the proofs of this crate cite, and the theorems.
pub mod Preparing
pub mod Refusals
pub mod Theorems
