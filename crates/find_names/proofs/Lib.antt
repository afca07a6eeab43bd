pub mod FoundLemmas
pub mod GrammarLemmas
mod KeywordLemmas
mod OrderLemmas
pub mod QuestionLemmas
pub mod TokenLemmas
