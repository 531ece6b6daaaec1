-- The laws of this crate's pass.
pub mod Names
pub mod Listing
