-- What the contracts of this crate say of stamps, and of what is lent.
pub mod Stamps
pub mod Fit
