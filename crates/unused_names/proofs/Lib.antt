pub mod InclusionLemmas
pub mod UseLemmas
pub mod LineLemmas
pub mod UnneededLemmas
pub mod OrderLemmas
