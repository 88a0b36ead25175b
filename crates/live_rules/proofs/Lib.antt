pub mod Leasts
pub mod Rows
pub mod OfferLemmas
pub mod Ends
pub mod EndedRows
