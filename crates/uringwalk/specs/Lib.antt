pub mod Files
pub mod Reporting
