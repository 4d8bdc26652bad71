pub mod Connected
pub mod Joinable
