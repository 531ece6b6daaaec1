-- The laws of this crate's pass.
pub mod Rows
pub mod Upwards
pub mod Turns
