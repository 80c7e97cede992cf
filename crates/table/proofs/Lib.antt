-- Laws of the table's text.
pub mod Playing
pub mod Writing
