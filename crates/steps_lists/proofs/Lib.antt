-- Laws of where a return goes on.
pub mod Following
