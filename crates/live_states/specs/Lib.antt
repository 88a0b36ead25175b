pub mod Received
pub mod History
pub mod Attempts
pub mod Numbers
pub mod Receipts
pub use Rattle.live_rules.specs.Actors
