-- What the contracts of this crate say of added edges: of adding one, and of a question over them.
pub mod Adding
pub mod Asked
pub mod Allowed
pub mod Right
pub mod Examples
