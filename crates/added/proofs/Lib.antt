-- Adding an edge.
pub mod Adds
-- The question: what the rounds say and leave, and the refusals.
pub mod Says
pub mod Refusals
-- Paths over all edges, in every graph that yields the bytes.
pub mod Right
pub mod Theorems
