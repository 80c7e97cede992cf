-- How many there are of each thing, by name.
pub mod Limits
