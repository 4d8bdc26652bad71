pub mod Laws
pub mod WordRun
pub mod PointLine
pub mod EdgeLine
pub mod FaceLine
pub mod Progress
pub mod Scanned
