-- The laws that the proofs of this crate cite.
pub mod Stamped
pub mod Counting
pub mod Trying
pub mod Rows
pub mod Nets
pub mod Passing
pub mod Turns
