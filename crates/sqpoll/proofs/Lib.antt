pub mod Polled
pub mod Restoring
