pub mod Spots
pub mod Claims
