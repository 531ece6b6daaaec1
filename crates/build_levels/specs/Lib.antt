-- What the contracts of this crate say of children, and of what is lent.
pub mod Children
pub mod Fit
