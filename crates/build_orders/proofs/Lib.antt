-- The laws of this crate's passes.
pub mod Edges
pub mod Permutations
pub mod Ranking
pub mod Rooting
pub mod Parents
pub mod Sequence
