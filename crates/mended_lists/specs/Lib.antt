pub mod InTurn
pub mod Reversal
pub mod Edges
pub mod Parts
pub mod Mending
pub mod Claims
pub mod Grounds
pub mod Pieces
