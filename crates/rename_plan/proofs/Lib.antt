pub mod PlanLemmas
mod MeaningLemmas
pub mod OnceLemmas
