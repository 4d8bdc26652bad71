pub mod Windows
pub mod Laid
