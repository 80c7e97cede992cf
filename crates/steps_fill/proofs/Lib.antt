-- Laws of the steps of an allocation that fill the cache.
pub mod FilledBlocks
pub mod FillingWays
