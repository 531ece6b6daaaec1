-- What the contracts of this crate say of listed vertices, and of what is answered.
pub mod Listing
pub mod Vertices
pub mod Listed
