-- What the contracts of this crate and of those above say of lent bytes and words, of what a search finds, and the bounds that they keep to.
pub mod Bounds
pub mod Put
pub mod Regions
pub mod Marks
pub mod Stamped
pub mod Found
