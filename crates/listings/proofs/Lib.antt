pub mod Exact
pub mod Lines
pub mod Whole
pub mod Parts
pub mod ReadBack
pub mod WrittenBack
pub mod Theorem
