pub mod MarkLemmas
pub mod SequenceLemmas
pub mod SortLemmas
pub mod FileLemmas
pub mod NamedLemmas
