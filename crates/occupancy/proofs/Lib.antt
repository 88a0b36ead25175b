pub mod Common
pub mod Counting
pub mod Noting
pub mod Moments
pub mod FollowingLemmas
