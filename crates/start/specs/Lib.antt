-- What the loops of a start leave.
pub mod Filled
