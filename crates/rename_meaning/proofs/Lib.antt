-- For the crates of laws above.
pub mod PutLemmas
pub mod SpellLemmas
pub mod StringLemmas
pub mod PieceLemmas
pub mod WordLemmas
pub mod NoneLemmas
pub mod MemberLemmas
pub mod KeptLemmas
pub mod CharacterLemmas
pub mod AlikeLemmas
pub mod LinkLemmas
pub mod ApartLemmas
pub mod KeptTokenLemmas
pub mod OccurringLemmas
pub mod KeptLineLemmas
pub mod RenamingLemmas
pub mod UneditedLemmas
pub mod DirectiveLemmas
pub mod ProcessedLemmas
pub mod OneTokenLemmas
pub mod MadeLemmas
pub mod OccurLemmas
pub mod KeptNameLemmas
pub mod AlikeLineLemmas
pub mod FoundLemmas
pub mod KeptFileLemmas
pub mod KeptNoteLemmas
pub mod KeptUnitLemmas
pub mod KeptFileTokenLemmas
pub mod MemberOrderLemmas
pub mod RunLemmas
pub mod SizeLemmas
pub mod UnitTokenLemmas
pub mod NamedLemmas
pub mod BoundUnitLemmas
pub mod LinksKeptLemmas
pub mod ReadLemmas
pub mod SourceLemmas
pub mod TextLemmas
pub mod EditLemmas
pub mod PlanLemmas
pub mod RefusalLemmas
-- What the proofs of this crate rest on.
mod LineItemLemmas
mod ParameterLemmas
mod IdentifierLemmas
mod SpelledLemmas
mod LinkedNameLemmas
mod ExternalNameLemmas
mod DenotingLemmas
mod MoveLemmas
mod SameElementLemmas
pub mod OneMoveLemmas
mod MovedLabelLemmas
pub mod FollowTokenLemmas
pub mod FollowLinkLemmas
mod ReadNameLemmas
mod UnitNameLemmas
mod ClassLemmas
mod BareLemmas
mod LooseLemmas
