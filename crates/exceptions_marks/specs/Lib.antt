-- What the contracts of this crate and of those above say of the marks of one group's exceptions.
pub mod Marks
