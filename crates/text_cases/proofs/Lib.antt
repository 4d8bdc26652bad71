pub mod Texts
pub mod Outputs
pub mod Mended
