pub mod Reach
pub mod Turned
