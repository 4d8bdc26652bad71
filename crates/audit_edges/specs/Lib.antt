pub mod HalfLinks
