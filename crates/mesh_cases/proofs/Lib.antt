mod Meshes
mod Records
pub mod Audited
pub mod Crossings
pub mod Refined
pub mod Rules
pub mod Steps
pub mod Agreement
