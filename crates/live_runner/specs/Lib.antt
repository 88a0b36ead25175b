pub mod History
pub mod Turns
pub mod Running
pub use Rattle.live_rules.specs.Actors
pub use Rattle.live_states.specs.Attempts
pub use Rattle.live_states.specs.Numbers
pub use Rattle.live_states.specs.Receipts
pub use Rattle.live_states.specs.Received
