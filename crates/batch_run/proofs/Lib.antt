pub mod ReadLemmas
pub mod WordLemmas
pub mod SettledTables
pub mod SettledWalk
pub mod SettledAnalyses
pub mod SourceLemmas
pub mod KeepingLemmas
pub mod StepLemmas
pub mod RunLemmas
pub mod ReplyLemmas
pub mod EndLemmas
mod StandingLemmas
