-- The definitions of document 01, in its order.
pub mod Lists
pub mod Graph
pub mod Labels
pub mod Index
pub mod Walk
pub mod Question
pub mod Numbers
pub mod Stored
pub mod Sound
pub mod Calls
pub mod Examples
