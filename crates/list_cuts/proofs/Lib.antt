pub mod MetLemmas
pub mod WovenLemmas
pub mod SpanLemmas
pub mod OrderLemmas
pub mod LengthLemmas
pub mod CutLemmas
pub mod CutOfLemmas
pub mod PlanLemmas
