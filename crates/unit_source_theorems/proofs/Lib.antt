pub mod Refused
pub mod Order
pub mod Shares
pub mod Spaced
pub mod Words
pub mod Examples
