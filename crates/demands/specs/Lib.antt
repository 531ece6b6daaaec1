-- The three demands, as statements about the calls: 1 in Calls and Face, 2 in Grail and Stored, 3 in Orders.
pub mod Calls
pub mod Face
pub mod Grail
pub mod Stored
pub mod Orders
