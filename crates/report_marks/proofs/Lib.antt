-- Laws of the blocks in hand, counted from the marks.
pub mod MaskedWords
pub mod EveryMask
pub mod RegionBlocks
pub mod LowestHeld
