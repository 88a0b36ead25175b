pub mod Common
pub mod Chains
pub mod Kinds
pub mod Orders
pub mod Programs
pub mod Values
