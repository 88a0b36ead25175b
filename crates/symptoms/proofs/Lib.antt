pub mod First
pub mod Taking
pub mod ConclusiveFindings
pub mod Sighted
