pub mod Opens
pub mod Joining
