-- The stock sheet.
pub mod Sheet
pub mod Filling
