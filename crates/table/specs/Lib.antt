-- Definitions of the table's text.
pub mod Output
