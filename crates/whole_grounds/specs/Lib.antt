pub mod Turning
pub mod Claims
