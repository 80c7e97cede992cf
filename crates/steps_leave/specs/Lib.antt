-- What the search for the next cache ensures.
pub mod Goes
