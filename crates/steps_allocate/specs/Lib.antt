-- Definitions of the steps of an allocation that take.
pub mod AnchorWords
