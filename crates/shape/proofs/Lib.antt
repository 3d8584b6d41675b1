pub mod Offsets
pub mod Balance
pub mod Examples
pub mod Opened
