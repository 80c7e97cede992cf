-- The control memory.
pub mod Layout
pub mod Places
pub mod Answers
pub mod Losts
