-- The call of document 02, [7], what it answers, and what its writing is lent.
pub mod Convert
pub mod Converted
pub mod Fit
