-- What is asked of a labelling before its inner intervals are looked at side by side, what marks tell meanwhile, and what the test of one group is.
pub mod Fit
pub mod Marks
pub mod Tests
