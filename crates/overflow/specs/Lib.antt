pub mod Backlogs
