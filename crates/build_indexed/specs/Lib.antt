-- Work memory while an index is made in it, who is a child of two there, and the form that it is written under.
pub mod Memory
pub mod Shared
pub mod Written
