-- The chain, and what the contracts of this crate say of the steps on the way.
pub mod Chain
pub mod Steps
