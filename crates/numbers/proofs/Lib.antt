-- The laws of numbers in bytes, of words in regions, and of what a search finds.
pub mod Regions
pub mod Put
pub mod Cleared
pub mod Marks
pub mod Stamping
pub mod Numbers
pub mod Written
pub mod Found
