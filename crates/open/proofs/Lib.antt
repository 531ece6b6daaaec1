-- The laws that the proofs of this crate and of those above cite.
pub mod Contents
pub mod Checks
pub mod Called
pub mod Entries
pub mod Starts
pub mod Small
pub mod Fits
pub mod Bounds
pub mod Theorem
