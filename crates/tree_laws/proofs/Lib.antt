-- For the crates of laws above.
pub mod HeldNames
pub mod EntityNames
pub mod LinkedNames
pub mod Lookups
pub mod Renaming
pub mod RenamedNames
pub mod RenamedSteps
pub mod RenamedWalk
pub mod Walked
pub mod OfTexts
pub mod NamesRead
-- What the proofs of this crate rest on.
pub mod InLists
pub mod Noted
pub mod Unnamed
pub mod Holding
pub mod HeldTags
pub mod HeldSteps
pub mod Adding
pub mod Counted
mod Climbing
mod OrderedLists
pub mod OrderedNames
mod RenamedObjects
pub mod RenamedMembers
mod SecondRanges
mod Ordered
mod Stopping
mod Each
mod Growing
mod Formed
pub mod Forms
pub mod NameClasses
mod NamePlaces
mod NameTable
mod Moves
mod Walking
mod Grown
mod Sorted
mod Once
mod Finish
mod ToldSteps
mod ToldLists
mod ToldWalk
pub mod Private
pub mod Parts
pub mod Outline
pub mod Outlines
pub mod Matching
pub mod TypedefClasses
pub mod Places
pub mod Rules
pub mod Goes
pub mod TypedefSteps
pub mod Taking
pub mod Declaring
pub mod Listing
pub mod ScopeNodes
pub mod Scoping
mod Enumerating
mod Parentheses
pub mod Table
mod Owned
mod Twins
pub mod Listed
mod Heads
pub mod Handing
pub mod Declarators
pub mod Steady
pub mod Functions
pub mod Beginning
pub mod Units
pub mod Texts
mod Standing
mod StandardClasses
mod StandardTrees
mod StandardSteps
mod Lines
mod Rows
mod Back
mod Narrowing
mod Asked
mod Lists
mod Walk
mod Binding
pub mod Below
pub mod TokenEnds
