pub mod Folds
pub mod Walks
pub mod Audit
pub mod Audited
pub mod Quick
pub mod Rows
pub mod Forms
pub mod Claims
