pub mod Containers
pub mod Requests
pub mod Children
pub mod Variables
