-- The words of document 02, [11], and what the contracts of this crate say of marks and states.
pub mod Rules
pub mod Marks
pub mod After
pub mod Examples
