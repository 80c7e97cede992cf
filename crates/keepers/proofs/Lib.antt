-- Laws of the region's keepers.
pub mod Searching
pub mod ReadTests
pub mod KeepersFound
