pub mod Walk
pub mod Faulty
pub mod Making
pub mod Answers
