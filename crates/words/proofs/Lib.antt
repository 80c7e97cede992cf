pub mod Heads
pub mod Anchors
pub mod Bits
pub mod Marks
pub mod LowestBit
