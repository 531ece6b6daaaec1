-- The laws of reading a text.
pub mod Blocks
pub mod Pairs
pub mod Whole
pub mod Bounded
