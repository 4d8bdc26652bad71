pub mod Layout
pub mod Mesh
pub mod Rows
pub mod Counted
pub mod Parts
pub mod Records
pub mod Loaded
pub mod Lent
