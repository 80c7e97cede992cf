pub mod Comparisons
pub mod Branch
pub mod Update
pub mod Weights
pub mod Counting
pub mod Totals
pub mod Linked
