pub mod Flat
pub mod Sides
pub mod Faces
pub mod Turned
pub mod Printed
pub mod Past
pub mod Outcome
pub mod Theorem
