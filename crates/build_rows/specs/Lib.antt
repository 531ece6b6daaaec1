-- What the contracts of this crate and of those above say of rows.
pub mod Rows
pub mod Passes
pub mod Fit
