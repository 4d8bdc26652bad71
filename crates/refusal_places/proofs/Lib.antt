pub mod Edges
pub mod Theorem
