-- For the crates of laws above.
pub mod Private
pub mod Bases
pub mod RespelledTexts
pub mod ReadBareNames
pub mod RenamedTrees
pub mod BareNames
pub mod Enclosing
-- What the proofs of this crate rest on.
mod Twins
mod Could
mod Moods
mod Table
mod Knowing
mod Deciding
mod Steps
mod Keeping
mod Starting
mod Locked
mod Named
mod Visible
mod Rows
mod Asking
mod KindTokens
mod NamingTokens
mod ScopeTokens
mod AskTable
mod OuterAsks
mod UnitAsks
mod AgreeingTexts
mod LooseNames
mod EnclosedNames
