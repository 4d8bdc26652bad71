pub mod Turning
pub mod Mending
pub mod Claims
