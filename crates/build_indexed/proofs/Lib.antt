-- The laws of an index made in work memory: groups and children there, who is a child of two, one labelling after the other, and the bytes that are written of them.
pub mod Stored
pub mod Shared
pub mod Orders
pub mod Turns
pub mod Written
