-- Won and lost exchanges along a run: what a step does with a word that tasks exchange, and what is said of it.
pub mod Recorded
pub mod Accesses
pub mod Collisions
