-- The laws that the proofs of this crate cite.
pub mod Spreading
pub mod Rounding
pub mod Fitted
pub mod Groups
pub mod Closes
pub mod Kept
pub mod Exactly
