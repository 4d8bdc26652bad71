pub mod Renumbered
pub mod Claims
