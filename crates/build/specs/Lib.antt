-- What the contracts of this crate say of what is lent, and of what is answered.
pub mod Input
pub mod Admitted
pub mod Answers
