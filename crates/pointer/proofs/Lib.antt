pub mod Cases
pub mod Table
pub mod Ranges
pub mod Opened
