-- What the tests of names, group list, child starts, children and levels compute.
pub mod Tests
