pub mod RandomRuns
