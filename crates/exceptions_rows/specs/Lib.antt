-- What the contracts of this crate and of those above say of one group's list.
pub mod Rows
