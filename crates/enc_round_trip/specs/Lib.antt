pub mod Replaced
pub mod RoundTrip
