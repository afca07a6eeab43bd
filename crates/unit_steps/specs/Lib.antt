-- What the public contracts rest on.
pub mod Notes
pub mod State
pub mod Expanding
pub mod Names
pub mod Conditions
pub mod Questions
pub mod Directives
pub mod IncludeNames
pub mod Texts
pub mod FirstNames
pub mod Keeping
pub mod Pieces
pub mod SourceTexts
pub mod Moments
pub mod Answering
-- Words of the crates below, passed on.
pub mod Below
