pub mod Steps
pub mod Walks
pub mod Intervals
pub mod FacePoints
pub mod EdgePoints
pub mod OldPoints
pub mod Rules
pub mod Isomorphisms
