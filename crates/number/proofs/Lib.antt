pub mod Choice
pub mod Groups
pub mod Turns
pub mod Stores
pub mod Reading
pub mod RoundTrip
pub mod Successive
pub mod Marked
