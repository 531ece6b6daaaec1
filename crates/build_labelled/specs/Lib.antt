-- What the contracts of this crate say of the window, of what is left in it, and of what is lent.
pub mod Window
pub mod Fit
