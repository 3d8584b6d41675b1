pub mod Meets
pub mod Computed
pub mod Tight
