pub mod Positions
pub mod Step
pub mod Rows
pub mod OneStep
pub mod FirstGround
pub mod LentScratch
