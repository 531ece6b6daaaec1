-- The laws that the proofs of this crate cite.
pub mod Stack
pub mod Walking
pub mod Opening
pub mod Turns
pub mod Words
