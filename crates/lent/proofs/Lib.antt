pub mod Choice
pub mod Stores
