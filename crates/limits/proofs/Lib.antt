-- The limits that follow from others.
pub mod Ties
