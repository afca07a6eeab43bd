mod TreeLemmas
mod NameLemmas
-- For callers.
pub mod ReadingLemmas
mod ReadAlike
mod AlikeNames
mod AlikeNodes
mod BoundAlike
pub mod WholeTexts
