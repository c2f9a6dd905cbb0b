pub mod Puts
pub mod Digits
pub mod Pieces
pub mod Turns
pub mod Whole
pub mod Program
