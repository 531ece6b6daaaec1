-- What the contracts of this crate and of those above say of build's input, of words that lack a stamp, and of what is lent.
pub mod Input
pub mod Lacks
pub mod Fit
pub mod Roots
