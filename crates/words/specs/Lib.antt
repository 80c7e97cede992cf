pub mod Head
pub mod Anchor
pub mod Mark
