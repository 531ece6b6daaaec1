-- The laws that the proofs of this crate cite.
pub mod Given
pub mod Indirect
pub mod Putting
pub mod Comparing
