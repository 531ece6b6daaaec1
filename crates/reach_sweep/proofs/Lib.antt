-- The laws that the proofs of this crate cite.
pub mod Turn
pub mod Children
pub mod Swept
pub mod Marking
pub mod Sweeping
