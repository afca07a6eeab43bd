pub mod TableLemmas
pub mod AgreeLemmas
pub mod FileTableLemmas
pub mod MadeLemmas
pub mod OpenedLemmas
pub mod EditedLemmas
pub mod OpeningLemmas
pub mod SearchedLemmas
pub mod HeaderLemmas
pub mod CandidateLemmas
pub mod SourcesLemmas
-- Words of the crates below, passed on.
pub mod Below
pub mod KeptLemmas
