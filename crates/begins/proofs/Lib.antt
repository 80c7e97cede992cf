-- The laws of the tests and of the beginnings.
pub mod Refusals
pub mod Testing
pub mod Beginning
pub mod FreeBegins
