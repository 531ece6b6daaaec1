-- What the contracts of this crate and of those above say of a stored list.
pub mod Listed
