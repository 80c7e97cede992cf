-- The plain pool: what it keeps, its steps, its calls; and its invariant.
pub mod State
pub mod Moves
pub mod AfterReturn
pub mod Steps
pub mod Calls
pub mod Blocks
pub mod ByState
pub mod Held
pub mod Noted
pub mod Requests
pub mod Leaving
pub mod HolderWeights
pub mod TaskHolds
pub mod Invariant
pub mod Codes
pub mod Never
pub mod OnePlace
