-- What the contracts of this crate say of the places that are laid out, and of the answers and marks of many pairs.
pub mod Places
pub mod Pairs
