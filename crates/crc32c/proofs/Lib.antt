pub mod Entries
pub mod Same
pub mod LookUp
