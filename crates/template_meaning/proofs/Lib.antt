-- For the crates of laws above.
pub mod Children
pub mod Forms
pub mod Parens
pub mod Editions
pub mod Units
pub mod Clear
pub mod UnitLists
-- What the proofs of this crate rest on.
mod InnerTable
pub mod Counted
mod Bare
mod Bracketed
mod Leading
mod UnitCut
mod FitTable
mod Fit
mod FitWalk
mod Again
mod ItemTable
mod ItemForms
mod ItemQuiet
mod OuterList
mod ItemUses
mod ItemsApart
mod ItemPairs
mod UnitItems
mod ListTests
mod UnitReorder
mod CanReorder
mod Prototypes
mod ExternalMoved
pub mod TablesEdited
mod EditsMade
pub mod PlansKept
pub mod RefusalsOne
mod NamesGoOn
mod UnitsGoOn
mod PathsStanding
pub mod FilesHeld
pub mod FilesKept
pub mod NoneMove
pub mod Top
mod Signs
mod Ending
pub mod TokenSigns
pub mod Walks
pub mod NameBefore
pub mod OwnNodes
pub mod UnitMarks
pub mod FoundLists
pub mod Counts
pub mod RunsOf
pub mod Across
pub mod FileMarks
pub mod FilesOf
pub mod ItemEnds
pub mod ItemsAlone
pub mod FileItems
pub mod SpansOf
pub mod OddLines
pub mod EvenLists
pub mod TextLists
pub mod Moving
pub mod Places
-- What plans over units of GNU C rest on.
pub mod TurnedTrees
pub mod RealFiles
pub mod KeptUnits
pub mod KeptTables
pub mod KeptOrders
