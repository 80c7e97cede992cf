-- What the reports share.
pub mod Passing
pub mod ByRegion
pub mod Rows
pub mod Reports
