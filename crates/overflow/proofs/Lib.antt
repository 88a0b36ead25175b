mod Common
pub mod Seen
pub mod Posting
pub mod Adding
pub mod KeptInOrder
pub mod Restoring
