-- What the contract of this crate says of children and parents, and of what is lent.
pub mod Places
pub mod Window
