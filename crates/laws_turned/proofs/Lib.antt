-- Paths, groups and names of the turned graph; what refuses a turned build; what a turned index says and lists.
pub mod Turned
pub mod Refused
pub mod Answers
