pub mod Orders
pub mod FirstPoint
pub mod Theorem
