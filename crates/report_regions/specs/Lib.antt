-- Which regions are open, and which are spare.
pub mod Opened
pub mod OpenClasses
pub mod SpareList
