-- What the contracts of this crate say of a group that is entered, and of the words that are used.
pub mod Entered
pub mod Words
