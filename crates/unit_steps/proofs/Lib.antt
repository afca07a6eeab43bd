pub mod FileToksLemmas
pub mod FirstNamesLemmas
pub mod KeepingLemmas
pub mod NamingLemmas
pub mod GoingLemmas
pub mod DefiningLemmas
pub mod AnsweringLemmas
pub mod JudgingLemmas
pub mod QuestionLemmas
pub mod BeginningLemmas
pub mod IncludingLemmas
pub mod VisitLemmas
pub mod PieceLemmas
-- Words of the crates below, passed on.
pub mod Below
