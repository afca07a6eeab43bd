-- For crates above: where items stand.
pub mod CoverLemmas
-- What the proofs of this crate rest on.
pub mod NameLemmas
pub mod SignLemmas
pub mod ParameterLemmas
pub mod BadLinesLemmas
pub mod KindLemmas
pub mod LineLemmas
pub mod PieceLemmas
pub mod ItemsLemmas
