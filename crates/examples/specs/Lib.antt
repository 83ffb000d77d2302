pub mod Examples
pub mod Runs
pub mod Premises
pub mod Replies
pub mod Exchange
pub mod Replay
pub mod Abort
