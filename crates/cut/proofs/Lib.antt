pub mod Within
pub mod Copies
pub mod Lines
pub mod Count
pub mod Outcome
pub mod Examples
pub mod Opened
