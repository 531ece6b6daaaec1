-- The laws of children and parents.
pub mod Rows
pub mod Places
pub mod Window
pub mod Named
pub mod Found
