-- What the printer leaves in a lent buffer.
pub mod Printer
