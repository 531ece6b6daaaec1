-- Laws of the rules over pairs, and of labels written with another number of labels by place.
pub mod Rules
pub mod Written
