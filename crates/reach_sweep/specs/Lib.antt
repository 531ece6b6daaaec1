-- What the contracts of this crate say of marks and the lent sections.
pub mod Sweep
pub mod Fit
