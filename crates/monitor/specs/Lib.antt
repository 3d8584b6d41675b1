pub mod Seeing
pub mod Monitoring
