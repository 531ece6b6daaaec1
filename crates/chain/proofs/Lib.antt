-- What is marked, and the steps down it, over an index; and the sections of sound bytes, which are fit for it.
pub mod Marked
pub mod Traced
pub mod Fitted
pub mod Shown
-- The stored bytes: their refusals.
pub mod Refusals
-- The chain in every graph that yields the bytes.
pub mod Right
pub mod Only
pub mod Theorems
