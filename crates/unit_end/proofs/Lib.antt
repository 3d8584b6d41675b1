pub mod Decide
pub mod Formulas
pub mod Together
pub mod Opened
