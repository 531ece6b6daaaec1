-- What the contracts of this crate say of answers and replies.
pub mod Replies
pub mod Asked
pub mod Sections
