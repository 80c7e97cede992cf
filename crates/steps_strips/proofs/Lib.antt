-- The ways out of the steps of strips.
pub mod StripWays
