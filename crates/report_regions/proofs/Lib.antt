-- Laws of what is read of a region.
pub mod OpenWays
pub mod ReadRegions
pub mod SpareWalks
pub mod OpenBounds
