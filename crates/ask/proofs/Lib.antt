-- The laws that the proofs of this crate cite.
pub mod Rules
pub mod Soundness
pub mod Refusals
pub mod Answered
pub mod Theorems
