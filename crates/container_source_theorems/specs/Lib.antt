pub mod Run
pub mod Bytes
