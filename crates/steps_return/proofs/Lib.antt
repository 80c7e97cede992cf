-- What the steps' proofs share.
pub mod Fitting
