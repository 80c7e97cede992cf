-- Laws of the pushes.
pub mod Pushing
