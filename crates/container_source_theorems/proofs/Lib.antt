pub mod Refused
pub mod Payload
pub mod Sequence
pub mod Examples
