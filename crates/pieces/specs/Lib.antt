pub mod Pieces
pub mod StripSizes
pub mod Strips
pub mod StripSlots
pub mod PieceRows
pub mod StripUnits
