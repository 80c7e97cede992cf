-- Laws of the tree, of its nodes by number, and of its moves.
pub mod LowBits
pub mod NodeBits
pub mod Levels
pub mod Powers
pub mod Finding
pub mod Found
pub mod SizeOrders
pub mod UnitTests
pub mod NoFreeNodes
