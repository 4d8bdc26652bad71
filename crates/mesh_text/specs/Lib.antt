pub mod Text
pub mod Lists
pub mod Reading
pub mod Parts
