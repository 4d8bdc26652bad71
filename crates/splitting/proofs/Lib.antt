pub mod Laws
pub mod Splitting
