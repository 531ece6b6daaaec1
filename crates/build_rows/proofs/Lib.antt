-- The laws of rows.
pub mod Counts
pub mod Filling
pub mod Passes
pub mod Pairs
pub mod Orders
pub mod Contents
