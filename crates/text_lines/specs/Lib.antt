-- What a line of the text program's input is, and what its line reader gives (document 01, "Text program").
pub mod Lines
pub mod Reader
