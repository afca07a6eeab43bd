-- For the crates of laws above.
pub mod EditedTokenLemmas
pub mod MacroLineLemmas
pub mod UnitLineLemmas
pub mod UnitLemmas
pub mod SeenLemmas
pub mod RespelledLemmas
pub mod FoundLemmas
pub mod WorkspaceLemmas
pub mod AnalysesLemmas
pub mod EditionLemmas
pub mod LinksLemmas
pub mod FileTokensLemmas
pub mod AloneLemmas
pub mod StandingLemmas
-- What the proofs of this crate rest on.
mod ValueLemmas
mod BadLinesLemmas
mod ItemLemmas
mod FollowLemmas
pub mod FitLemmas
pub mod ListLemmas
pub mod FileLemmas
pub mod TableTokenLemmas
pub mod TracedLemmas
pub mod AnalysedUnitLemmas
mod TextLemmas
mod NameLemmas
mod MacroLemmas
mod PartLemmas
mod LineLemmas
mod TableLemmas
mod DirectiveLemmas
mod ConditionLemmas
mod OpenLemmas
mod IncludeLemmas
mod AskingLemmas
mod WalkLemmas
mod StepLaws
mod ReorderedTextLemmas
mod ReorderedAnalysesLemmas
mod ReorderedWorkspaceLemmas
mod TokenRunLemmas
mod AlongLemmas
mod HeadLemmas
mod FirstLemmas
mod ListRunLemmas
mod NumberLemmas
mod PathLemmas
mod LooseLemmas
mod BoundLemmas
mod FileTextLemmas
pub mod ApartLemmas
