-- Laws of links.
pub mod Links
