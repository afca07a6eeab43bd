pub mod AtomLemmas
pub mod DerivingLemmas
mod FrontLemmas
pub mod GrammarLemmas
pub mod LawLemmas
pub mod NearLemmas
pub mod PatternLemmas
pub mod PlaceLemmas
pub mod ReadingLemmas
pub mod SatisfyingLemmas
mod StepLemmas
mod TellingLemmas
pub mod WalkLemmas
