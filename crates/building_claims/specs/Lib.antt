pub mod Connects
pub mod LentContent
pub mod Pieces
