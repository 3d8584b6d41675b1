pub mod Answers
pub mod Writes
pub mod Opened
