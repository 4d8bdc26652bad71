pub mod Printing
pub mod Grammar
pub mod Handing
pub mod Claims
