-- The laws of this crate's passes, and those that its callers cite.
pub mod Regions
pub mod Ordered
pub mod Forest
pub mod Walked
pub mod Again
pub mod Stored
