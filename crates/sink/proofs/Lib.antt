pub mod Refuses
pub mod Feeds
pub mod Opened
