mod Common
pub mod InTurn
pub mod Again
pub mod Filters
pub mod Joining
pub mod Listed
pub mod MatchByMatch
pub mod Meeting
pub mod Severing
pub mod Tallying
pub mod Targets
pub mod Whole
pub mod Walking
pub mod Sweeping
