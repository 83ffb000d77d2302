pub mod Command
pub mod Response
pub mod Primitive
pub mod Answer
pub mod Replay
pub mod Abort
