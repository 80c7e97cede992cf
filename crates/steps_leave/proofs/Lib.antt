-- Laws of the search for the next cache.
pub mod Going
