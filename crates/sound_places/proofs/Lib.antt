-- The laws that the proofs of this crate and of those above cite.
pub mod Lent
pub mod Vertices
pub mod Triples
pub mod Images
