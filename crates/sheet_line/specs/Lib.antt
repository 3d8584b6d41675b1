pub mod Grammar
pub mod Line
pub mod Refusals
pub mod Inner
