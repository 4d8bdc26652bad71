pub mod Lengths
pub mod Readings
pub mod Names
pub mod Steps
pub mod Naming
pub mod Positions
pub mod Runs
