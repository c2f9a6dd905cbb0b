pub mod Agreement
pub mod Kept
pub mod Meaning
pub mod Requests
pub mod RoundTrip
pub mod Shapes
