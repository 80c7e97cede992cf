pub mod TreeFollows
pub mod StripsAgree
pub mod SmallWords
pub mod ObservedPieces
pub mod SlotsCounted
