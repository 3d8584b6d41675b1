pub mod Determined
pub mod Sources
pub mod Received
