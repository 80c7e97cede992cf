-- Blocks in caches, counted by region.
pub mod CacheRows
