pub mod Keeps
pub mod Grounds
pub mod Calls
pub mod Arrival
pub mod Lists
