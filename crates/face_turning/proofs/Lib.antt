pub mod Moves
pub mod Faces
