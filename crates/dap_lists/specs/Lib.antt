pub mod Listed
pub mod Pages
pub mod Windows
pub mod Steps
