-- The laws of this crate's steps.
pub mod Found
