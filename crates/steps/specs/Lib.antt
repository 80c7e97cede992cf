-- The list move that starts at a place.
pub mod StartsAt
