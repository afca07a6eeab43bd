pub mod AnswerLemmas
pub mod KeepLemmas
pub mod MarkLemmas
pub mod ReadOnlyLemmas
pub mod RoleLemmas
mod ClassRoleLemmas
