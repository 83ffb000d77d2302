pub mod Log
pub mod Whole
