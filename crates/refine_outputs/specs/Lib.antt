pub mod Output
pub mod FirstPoint
pub mod Claims
pub mod Bytes
