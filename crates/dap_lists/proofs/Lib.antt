pub mod Paging
pub mod Changed
