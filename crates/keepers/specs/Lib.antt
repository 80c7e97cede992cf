-- The region's keepers.
pub mod Keepers
pub mod Filling
