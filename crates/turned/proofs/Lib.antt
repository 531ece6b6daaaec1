-- What the turned calls promise.
pub mod Theorems
