pub mod Pollers
