-- What the contracts of this crate say of many pairs.
pub mod Pairs
pub mod Batch
