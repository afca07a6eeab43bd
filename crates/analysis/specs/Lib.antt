-- What the public contracts rest on.
pub mod Texts
pub mod Answers
pub mod Places
pub mod Analysis
pub mod GnuUnits
pub mod Links
pub mod FileTokens
pub mod Parts
pub mod Spellings
pub mod Naming
pub mod Placing
pub mod ClassReport
pub mod Classes
pub mod Analysed
pub mod Tables
pub mod Counts
pub mod Changed
-- What inner functions promise each other.
pub mod Carrying
pub mod TokenSearch
pub mod Marking
pub mod Joins
pub mod Firsts
pub mod Segments
pub mod Listing
pub mod Accepting
pub mod Adding
pub mod BroughtNumbers
pub mod AnalysisFields
pub mod Trees
pub mod UnitFronts
pub mod AnalysisAnswers
pub mod HeldUnits
pub mod MadeAgain
-- Words of the crates below, passed on.
pub mod Below
