pub mod Names
pub mod Takes
pub mod Opened
