-- Laws of the calls on a plain hierarchy.
pub mod Admitted
pub mod Asked
pub mod Sections
pub mod Written
pub mod Fitted
pub mod Refusals
pub mod Theorems
pub mod Taken
pub mod Finished
