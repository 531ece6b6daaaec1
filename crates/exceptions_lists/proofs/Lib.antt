-- The laws that the proofs of this crate and of those above cite.
pub mod Ends
pub mod Apart
pub mod Writing
pub mod Standing
pub mod Matches
pub mod Matched
