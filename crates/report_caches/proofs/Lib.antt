-- Laws of caches that are walked and counted.
pub mod Walking
pub mod LowestBlocks
