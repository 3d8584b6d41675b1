pub mod Plains
pub mod Written
