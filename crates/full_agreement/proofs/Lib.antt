pub mod OnKinds
pub mod Agreement
pub mod SecondStarts
pub mod Answers
pub mod Theorem
