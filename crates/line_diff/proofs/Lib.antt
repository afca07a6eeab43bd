pub mod LineLemmas
pub mod RowLemmas
pub mod PairLemmas
pub mod EntryLemmas
pub mod StretchLemmas
pub mod TellingLemmas
pub mod AppliedLemmas
pub mod PushLemmas
