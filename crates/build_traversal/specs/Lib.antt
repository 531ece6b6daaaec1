-- What the contracts of this crate say of a traversal.
pub mod Frames
pub mod Traversed
pub mod Fit
