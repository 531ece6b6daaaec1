-- The laws that the proofs of this crate cite, and what a program in C may rely on.
pub mod Theorems
