-- What the contracts of this crate say of answers and lent memory.
pub mod Settled
