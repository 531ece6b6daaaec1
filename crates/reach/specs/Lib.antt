-- What the contracts of this crate and of those above say of marks, and of the names that they go by.
pub mod Marks
pub mod Fit
