pub mod PlaceLemmas
pub mod ChildLemmas
pub mod CompareLemmas
pub mod FileLemmas
pub mod SharedLemmas
pub mod OverLemmas
pub mod ProductionLemmas
pub mod ToldLemmas
