pub mod Laws
pub mod Places
pub mod Along
pub mod Room
pub mod Turning
pub mod Fitting
