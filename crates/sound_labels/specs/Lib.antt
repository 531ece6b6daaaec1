-- What the test of one labelling among several computes.
pub mod Tests
