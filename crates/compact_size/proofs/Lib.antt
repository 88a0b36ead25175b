pub mod ReadingLemmas
pub mod CompactSizeLemmas
pub mod FrameLemmas
