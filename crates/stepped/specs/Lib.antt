-- The stepped pool: outcomes, the tests whose failure is 14, the steps, the calls.
pub mod Outcome
pub mod Ranges
pub mod Leaving
pub mod Lists
pub mod Allocate
pub mod Free
pub mod StripSteps
pub mod Steps
pub mod Start
pub mod Calls
pub mod Done
