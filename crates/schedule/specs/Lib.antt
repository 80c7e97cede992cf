-- Definitions of the stand.
pub mod Records
pub mod Reading
pub mod Tally
pub mod Stand
pub mod Bytes
pub mod Plain
