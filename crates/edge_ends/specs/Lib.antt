pub mod Connection
pub mod Ends
pub mod Faces
