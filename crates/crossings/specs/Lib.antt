pub mod Crossings
pub mod Claims
