pub mod LentContent
pub mod Connects
pub mod Cases
pub mod Pyramid
