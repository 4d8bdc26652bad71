pub mod Edge
pub mod Ends
