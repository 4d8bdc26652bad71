pub mod Printing
pub mod Claims
pub mod Faces
