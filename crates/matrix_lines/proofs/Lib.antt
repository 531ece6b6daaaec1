-- Pieces and runs of lines; what is written is read back; the laws of the code on lines.
pub mod Pieces
pub mod Canonical
pub mod Joined
pub mod Runs
pub mod Round
pub mod Said
pub mod Fronts
pub mod Grammar
pub mod Reread
pub mod Firsts
pub mod Lines
