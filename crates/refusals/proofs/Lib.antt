-- A refusal is told by its number and its extra number.
pub mod Told
