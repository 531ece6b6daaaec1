-- What the contracts of this crate say of records.
pub mod Table
