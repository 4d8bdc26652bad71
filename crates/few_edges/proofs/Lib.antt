pub mod Steps
pub mod Joins
pub mod Rounds
pub mod Comparing
