pub mod Common
pub mod Rows
pub mod Following
pub mod RowLaws
