pub mod Laws
pub mod Gathering
pub mod Feeding
pub mod Ends
