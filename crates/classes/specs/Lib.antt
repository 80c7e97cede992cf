pub mod Classes
pub mod Sizes
pub mod Geometry
pub mod Factors
