-- What the contracts of this crate say of the labels.
pub mod Intervals
