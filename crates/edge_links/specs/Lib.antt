pub mod Connect
pub mod Joinable
