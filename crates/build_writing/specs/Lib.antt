-- What the contracts of this crate say of sections whose numbers lie in work memory, and of what is lent.
pub mod Words
pub mod Fit
