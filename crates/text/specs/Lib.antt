-- Definitions of the stand's text.
pub mod Texts
pub mod Lines
