pub mod Threads
pub mod Frames
pub mod Scopes
pub mod Evaluations
pub mod Bodies
