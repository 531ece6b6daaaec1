-- The conversions of document 02, [14], and what the parts of the calls are lent.
pub mod Turn
pub mod Turned
pub mod Fit
pub mod Examples
