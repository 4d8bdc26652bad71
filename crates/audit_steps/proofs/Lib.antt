pub mod Linked
pub mod Noted
