-- The lines of a text, where the checks of the call stop, and what is written and read back.
pub mod Rows
pub mod Entries
pub mod Refusals
pub mod Theorems
