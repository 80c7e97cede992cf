-- Laws of the tests of values that are read.
pub mod RangeTests
pub mod Passed
