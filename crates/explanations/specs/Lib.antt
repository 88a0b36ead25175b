pub mod Common
pub mod Explained
pub mod ReportLists
pub mod Locations
pub mod Subjects
