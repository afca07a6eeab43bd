mod BeginLemmas
mod ComparedLemmas
pub mod MeaningLemmas
pub mod OnceLemmas
mod PlanLemmas
mod TreeLemmas
