pub mod Parts
pub mod Theorem
pub mod Cases
pub mod Again
