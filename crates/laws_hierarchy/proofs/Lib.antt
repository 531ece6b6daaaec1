-- One parent; the inner interval is the outer one; what follows for paths, for questions and for the number of entries.
pub mod Parents
pub mod Shared
pub mod Blocks
pub mod Contained
pub mod Unopened
pub mod Pairs
pub mod Entries
pub mod Examples
