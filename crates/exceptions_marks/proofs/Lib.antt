-- The laws that the proofs of this crate and of those above cite.
pub mod Containment
pub mod Fitted
pub mod Looking
pub mod Unmarked
pub mod Swept
