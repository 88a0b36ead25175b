pub mod Outcomes
pub mod Posting
