-- What is marked, over an index; and the sections of sound bytes, which are fit for it.
pub mod Marked
pub mod Fitted
