-- For the crates of laws above.
pub mod Found
pub mod Whole
pub mod Stops
pub mod Local
pub mod Tables
pub mod Units
pub mod Numbered
pub mod TextsInOrder
pub mod FrontClasses
pub mod FrontSteps
pub mod FrontTop
pub mod FrontAgrees
pub mod FrontOutlines
pub mod Bridge
-- What the proofs of this crate rest on.
mod Later
mod Orders
mod Starts
mod Arguments
mod Parameters
mod Numbers
mod Before
mod Alone
mod Enclosed
mod Free
mod FreeTables
mod Shuffled
mod Permuted
mod Near
mod Fronts
mod Anew
mod ParameterLists
mod AnewLists
mod AnewTables
mod Keyed
mod Rows
mod FrontNames
mod CleanNames
mod FrontTrees
mod FrontGrows
mod MarkedTokens
mod Reworded
mod FrontKeyed
mod PlainTexts
mod Filled
mod Joined
mod PlainOrder
pub mod EachLemmas
pub mod MarkLemmas
pub mod TellLemmas
pub mod TidyLemmas
pub mod SplitLemmas
pub mod OfLemmas
pub mod TreeLemmas
pub mod SignLemmas
pub mod RunMarkLemmas
pub mod ClassLemmas
pub mod PartMarks
pub mod Across
