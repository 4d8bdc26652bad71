pub mod Walking
pub mod Walked
pub mod OneEdges
