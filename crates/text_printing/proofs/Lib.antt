-- The laws of the printer, and how long the output is at most.
pub mod Putting
pub mod Longest
