-- What is asked of the labels of a plain hierarchy, what decides by them, and what they are with another number of labels by place.
pub mod Pairs
pub mod Turned
