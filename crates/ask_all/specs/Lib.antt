-- What the contracts of this crate say of many pairs.
pub mod Batch
pub mod Batched
pub mod Lent
