pub mod EagerRuns
pub mod Prompting
