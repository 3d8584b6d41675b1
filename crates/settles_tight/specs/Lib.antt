pub mod Signal
pub mod Runs
