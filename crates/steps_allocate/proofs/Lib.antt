-- Laws of the steps of an allocation that take.
pub mod AllocateWays
