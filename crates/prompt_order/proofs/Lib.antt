pub mod Dues
pub mod Prompting
