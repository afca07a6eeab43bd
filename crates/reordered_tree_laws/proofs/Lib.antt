pub mod Arranged
pub mod SameForms
mod Beside
pub mod OwnTypes
mod BesideNames
mod BesideMembers
mod BesideSteps
pub mod BesideWalk
pub mod Seen
pub mod Adding
mod ItemLemmas
pub mod Rows
mod PremiseRows
pub mod Ranges
pub mod MovedLists
pub mod MovedFacts
pub mod MovedNames
pub mod MovedMembers
pub mod MovedTrees
pub mod MovedKept
pub mod MovedTokens
pub mod MovedEntering
pub mod MovedLeaving
pub mod MovedWalk
pub mod MovedResult
pub mod MovedPlaces
pub mod MovedHeads
pub mod MovedOrders
pub mod MovedUnits
pub mod OnlyAdding
pub mod Quiet
pub mod Owned
pub mod AddsAlike
pub mod Spread
pub mod SiblingsApart
mod Signs
pub mod ListForms
mod ListSteps
pub mod SiblingsBeside
pub mod RangesBehind
pub mod Checks
pub mod ItemsStay
pub mod ItemsMoved
pub mod ItemForms
pub mod Answered
pub mod OutlineSteps
pub mod Longer
pub mod Within
pub mod Chains
pub mod Bags
pub mod Answering
pub mod Placing
pub mod Ready
pub mod NamesGo
pub mod NamesWalk
pub mod Tested
pub mod Unseen
pub mod AgreeingLemmas
pub mod AgreeingNew
pub mod AgreeSteps
pub mod AgreeWalk
pub mod NamesAgree
pub mod TextsAgree
mod NameRows
-- What the proof rests on, lowest first.
mod Stacks
mod TwoOrders
mod Growth
mod NodesPass
mod Low
mod ListWalk
mod Spots
mod ToldTwice
mod NamesNear
mod ListEnter
mod OldItems
mod NewPlaces
mod NewForms
mod ItemGoes
mod NewItems
mod Picked
mod ReorderedBind
mod BehindLists
mod ListGoes
mod ListsGo
