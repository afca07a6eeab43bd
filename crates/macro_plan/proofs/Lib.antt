pub mod EditedLemmas
pub mod AlikeLemmas
pub mod PlanLemmas
pub mod OnceLemmas
