-- Laws of the exported calls.
pub mod Calling
pub mod Started
pub mod Reporting
