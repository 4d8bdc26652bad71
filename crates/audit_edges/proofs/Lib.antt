pub mod EdgeTests
pub mod Links
