pub mod Laws
pub mod Answers
pub mod Table
pub mod Opened
