-- Laws of what requests have under way.
pub mod RequestBounds
pub mod RequestsCounted
pub mod OneRegionTests
