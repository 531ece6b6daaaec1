-- The calls on exception lists, and what is answered as the definitions have it.
pub mod Calls
pub mod Admitted
pub mod Written
pub mod Opened
pub mod Said
