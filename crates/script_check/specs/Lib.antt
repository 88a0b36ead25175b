pub mod SureFailures
pub mod Verdicts
