pub mod Receiving
pub mod InnerTurns
pub mod Inner
