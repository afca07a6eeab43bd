pub mod ResultLemmas
pub mod RestLemmas
pub mod LengthLemmas
pub mod ChainLemmas
mod LiveLemmas
mod DefiningLemmas
mod HideLemmas
mod NamePartLemmas
pub mod KeptLemmas
pub mod PredefinedLemmas
pub mod MakingLemmas
pub mod PastingLemmas
pub mod SoundLemmas
pub mod ReplacementLemmas
mod PlainBodyLemmas
-- Words of the crates below, passed on.
pub mod Below
