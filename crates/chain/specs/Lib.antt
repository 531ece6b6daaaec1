-- What the contracts of this crate say: of the marks, and of what is answered and written.
pub mod Marks
pub mod Traced
pub mod Chained
pub mod Right
pub mod Examples
