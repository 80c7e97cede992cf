pub mod Below
pub mod Tables
pub mod Series
pub mod Sizes
pub mod LeadingBits
pub mod BlockUnits
pub mod Factors
