-- Laws for the tests of inner intervals side by side: a child found in its row, the left walk over ranks, and what passed ranks give it.
pub mod Search
pub mod Walk
pub mod Ranked
pub mod Blocks
