-- The laws of the line reader.
pub mod Bytes
pub mod Decimals
pub mod Digits
pub mod Words
