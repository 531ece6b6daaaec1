-- What the contracts of this crate say of the pass in work memory.
pub mod Window
