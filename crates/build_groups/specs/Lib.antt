-- What the contract of this crate says of names and places, and of what is lent.
pub mod Fit
pub mod Places
