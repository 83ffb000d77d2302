pub mod Endpoint
pub mod Command
pub mod Formed
pub mod Response
pub mod Primitive
pub mod Answer
pub mod Replay
pub mod Abort
