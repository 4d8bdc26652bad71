mod Cases
pub mod Read
pub mod Heads
pub mod Stored
