-- What the tests of a call tell.
pub mod TestNumber
