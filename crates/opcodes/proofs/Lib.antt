mod Common
pub mod Transferring
pub mod Nothing
pub mod Staying
pub mod Counting
pub mod Moving
pub mod Deciding
pub mod Timing
