mod WalkLemmas
mod PlaceLemmas
mod LiftLemmas
mod NameLemmas
mod BoundLemmas
mod NamingLemmas
pub mod ScopeLemmas
pub mod JoinedLemmas
pub mod MovedTypes
pub mod MovedSpaces
pub mod CarriedFacts
pub mod CarriedNames
pub mod CarriedMembers
pub mod CarriedNodes
pub mod CarriedWalk
