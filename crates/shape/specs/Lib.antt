pub mod Numbers
pub mod Shape
