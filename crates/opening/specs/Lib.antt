pub mod Opening
pub mod Formed
