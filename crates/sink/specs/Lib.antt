pub mod Sink
pub mod Inner
