-- Numbers in bytes, and a layout of such numbers.
pub mod Little
pub mod Columns
