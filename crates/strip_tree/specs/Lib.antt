-- The tree of the free pieces of the strips' memory, and what its moves make of it.
pub mod LowBits
pub mod Trees
pub mod TreeMoves
pub mod SlotStates
