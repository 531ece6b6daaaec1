-- What the tests of s, m and e compute, and what they ask of the stretches that they are lent.
pub mod Fit
pub mod Tests
pub mod Reading
