pub mod Words
pub mod Ending
pub mod View
pub mod States
pub mod Kinds
pub mod Served
pub mod File
pub mod Pieces
