-- The laws of the whole run.
pub mod Finished
pub mod Whole
pub mod Refusals
pub mod Theorems
