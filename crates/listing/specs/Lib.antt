pub mod Text
pub mod Piece
pub mod Turn
