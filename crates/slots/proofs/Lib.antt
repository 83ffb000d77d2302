pub mod Placed
pub mod Stores
