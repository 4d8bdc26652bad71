pub mod Cases
pub mod Laws
pub mod RoundTrip
pub mod Printed
