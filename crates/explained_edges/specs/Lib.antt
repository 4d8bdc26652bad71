pub mod TextEdges
pub mod Claims
