-- For the crates of laws above.
pub mod DoneLemmas
pub mod UnitLemmas
pub mod NoteLemmas
pub mod PartLemmas
pub mod TextLemmas
pub mod ReachedLemmas
pub mod SpellingLemmas
pub mod NameLemmas
pub mod TokenLemmas
pub mod ToldLemmas
pub mod UseLemmas
pub mod EditedLemmas
pub mod ReorderedPartLemmas
pub mod ReorderedFileLemmas
pub mod ReorderedUnitLemmas
pub mod TokenRunLemmas
-- What the proofs of this crate rest on.
mod ExpandingLemmas
mod NamingLemmas
mod DefiningLemmas
mod ConditionLemmas
mod IncludeLemmas
mod AskingLemmas
mod WalkLemmas
mod TestLemmas
mod FileLemmas
mod ReplacedLemmas
mod StepLemmas
mod ReorderedStepLemmas
mod OpenLemmas
mod LineLemmas
mod ReorderedAskingLemmas
mod RunLemmas
mod ReorderedWalkLemmas
mod SignLemmas
mod ReorderedLemmas
mod SliceLemmas
