-- The three demands of the exported functions.
pub mod NumberTells
pub mod Failing
pub mod Acting
pub mod ReachingByActs
pub mod Backing
pub mod EndingSteps
pub mod WholeStep
pub mod HandedOut
pub mod Demands
pub mod TaskLeaves
pub mod StockSheet
pub mod SheetByHolder
pub mod RegionKeepers
pub mod LostTold
