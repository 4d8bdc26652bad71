pub mod First
mod Order
mod Joined
pub mod Theorem
