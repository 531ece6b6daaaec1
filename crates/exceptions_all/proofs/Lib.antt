-- The laws that the proofs of this crate cite, and its theorems.
pub mod Pairs
pub mod Tabled
pub mod Refusals
pub mod Theorems
