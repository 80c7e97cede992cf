-- Laws of the stand.
pub mod Running
pub mod Playing
pub mod Example
