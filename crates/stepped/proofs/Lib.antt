-- The laws of the stepped pool that the code's proofs cite.
pub mod Conjunction
pub mod CallTests
pub mod Doing
pub mod MovePlaces
