-- Blocks in hand, counted from the marks.
pub mod InHand
pub mod Masks
