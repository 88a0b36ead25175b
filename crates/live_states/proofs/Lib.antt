pub mod AppendingLemmas
pub mod ReceiptLemmas
pub mod Rising
