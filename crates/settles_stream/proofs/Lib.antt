pub mod Seen
pub mod Chop
pub mod Together
