-- What the reason of a list move decides, what its items are, and where a return goes on after a won exchange.
pub mod Kinds
pub mod Reasons
pub mod Following
