-- What opening asks of the sections, what it answers, and what it decides.
pub mod Opened
pub mod Yields
