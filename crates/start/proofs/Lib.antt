-- The laws of the start's image.
pub mod StartImage
