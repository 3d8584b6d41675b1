pub mod Demand
pub mod Host
