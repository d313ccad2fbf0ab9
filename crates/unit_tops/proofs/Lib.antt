pub mod EntryLemmas
pub mod MarkLemmas
pub mod PlaceLemmas
pub mod TopLemmas
