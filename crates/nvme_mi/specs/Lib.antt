pub mod Message
pub mod Check
pub mod Response
