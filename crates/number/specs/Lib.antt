pub mod Choice
pub mod Reader
pub mod Writer
pub mod Numbers
pub mod Answers
