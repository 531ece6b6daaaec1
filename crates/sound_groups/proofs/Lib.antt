-- The laws that the proofs of this crate and of those above cite.
pub mod Many
pub mod Listed
pub mod Starts
pub mod Rising
pub mod Greatest
pub mod Both
pub mod Groups
