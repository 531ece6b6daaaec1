-- What a text says, and the defined output (document 01, "Text program").
pub mod Text
pub mod Output
pub mod Blocks
pub mod Examples
