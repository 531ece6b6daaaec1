-- The laws that the proofs of this crate and of those above cite: positions, states one after the other, and what is marked.
pub mod Positions
pub mod States
pub mod Marking
pub mod Vertices
pub mod Affected
pub mod After
pub mod OneByOne
