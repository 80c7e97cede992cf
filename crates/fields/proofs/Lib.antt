-- Laws of numbers in bytes and of layouts.
pub mod Little
pub mod Elsewhere
pub mod LentPart
pub mod Layouts
