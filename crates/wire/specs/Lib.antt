pub mod Sequences
pub mod Entries
pub mod Answers
