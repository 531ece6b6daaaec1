-- The laws of sections written from work memory.
pub mod Behind
pub mod Labellings
pub mod Groups
pub mod Encoded
