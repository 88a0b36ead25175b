pub mod Sizes
pub mod Numbers
pub mod ObjectNames
pub mod PrintedNames
