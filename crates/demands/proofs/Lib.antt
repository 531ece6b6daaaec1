-- The laws that the demands need beyond those of the crates below, and the demands.
pub mod Refusals
pub mod Words
pub mod Grail
pub mod Yielded
pub mod Asked
pub mod Stored
pub mod Opened
pub mod Orders
pub mod Face
pub mod Demands
