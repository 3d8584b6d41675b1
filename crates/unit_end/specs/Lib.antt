pub mod Terms
pub mod Actions
pub mod Settled
pub mod Together
