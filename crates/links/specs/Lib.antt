-- Links in the area.
pub mod Link
