-- The laws that the proofs of this crate and of those above it cite.
pub mod Placing
pub mod Settling
pub mod Pairs
pub mod Lent
