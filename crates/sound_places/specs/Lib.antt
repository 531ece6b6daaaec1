-- What the sections of a sound index are when they are lent.
pub mod Lent
