pub mod Steps
pub mod Places
pub mod Border
pub mod Neighbour
pub mod Claims
