pub mod Leaves
pub mod Opened
