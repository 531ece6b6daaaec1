-- What the contracts of this crate and of those above say of the stored form.
pub mod Sections
pub mod Rows
pub mod Fits
pub mod Reading
