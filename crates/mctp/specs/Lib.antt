pub mod Setup
pub mod Header
pub mod Cut
pub mod Gather
pub mod Feed
