-- The laws of this crate's passes.
pub mod Once
pub mod Stamping
pub mod Stripping
pub mod Stripped
