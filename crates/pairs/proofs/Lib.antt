pub mod Scan
pub mod Visits
