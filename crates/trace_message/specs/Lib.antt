pub mod Message
pub mod InnerRegister
