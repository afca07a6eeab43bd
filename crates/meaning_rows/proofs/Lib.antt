pub mod ClauseLemmas
pub mod OffenceLemmas
pub mod RowLemmas
pub mod RowTokens
pub mod BrokenRows
pub mod SharedRows
pub mod PreprocessedRows
