pub mod Common
mod Opened
mod Valued
