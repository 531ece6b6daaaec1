-- The laws of build.
pub mod Checks
pub mod Tree
pub mod Outcomes
pub mod Answered
pub mod Row
pub mod Call
pub mod Accepted
pub mod Theorems
pub mod Same
pub mod Hierarchy
pub mod Yielded
