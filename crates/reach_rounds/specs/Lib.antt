-- Paths over children and added edges, and the rounds that mark what they lead to.
pub mod Over
pub mod Rounds
