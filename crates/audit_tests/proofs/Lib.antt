pub mod Laws
pub mod PointTests
