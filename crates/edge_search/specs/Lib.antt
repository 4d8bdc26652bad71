pub mod Chains
pub mod Places
