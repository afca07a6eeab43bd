-- For the crate of laws above: any fact of tokens, in place of a test.
pub mod ListLemmas
pub mod RuleLemmas
pub mod ClosureLemmas
pub mod PiecesLemmas
pub mod TellingLemmas
pub mod StringLemmas
mod PassingLemmas
mod FrontLemmas
mod BeginLemmas
pub mod TextKindLemmas
pub mod ShapeLemmas
mod SpelledLemmas
pub mod SpelledLaw
-- The definition as one step, part by part, and under a renaming.
pub mod FollowsLemmas
mod GroundLemmas
pub mod MadeLemmas
pub mod OriginLemmas
mod PartLemmas
mod PartsLemmas
mod PastedLemmas
pub mod RenamedLemmas
mod SimulationLemmas
mod WorldLemmas
pub mod PutLemmas
pub mod SplitLemmas
pub mod PlainLemmas
pub mod AlikeLemmas
pub mod PortionLemmas
pub mod SectionLemmas
pub mod BeforeLemmas
pub mod MarkLemmas
pub mod GoingLemmas
pub mod ArrangeLemmas
pub mod CutLemmas
pub mod OneCutLemmas
pub mod EndLemmas
