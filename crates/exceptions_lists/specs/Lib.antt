-- What the contracts of this crate say of all lists of an index.
pub mod Lists
