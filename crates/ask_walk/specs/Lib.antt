-- What the contracts of this crate say of the stored sections and of the marks.
pub mod Stamps
pub mod Fit
pub mod Walks
