-- The laws that the proofs of this crate and of those above cite, and the theorems of each call.
pub mod Refusals
pub mod Filled
pub mod Opening
pub mod Asking
pub mod Building
pub mod Excepted
