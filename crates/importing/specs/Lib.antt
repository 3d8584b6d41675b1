pub mod Import
pub mod Inner
