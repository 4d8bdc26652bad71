pub mod Tests
pub mod Folds
pub mod Walks
pub mod Audited
pub mod Sums
pub mod OneEdge
pub mod Quick
pub mod Positions
mod Intervals
pub mod Cycles
pub mod Rows
pub mod Darts
pub mod Closed
pub mod Holds
