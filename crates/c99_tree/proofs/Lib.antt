pub mod TreeLemmas
pub mod NameLemmas
pub mod MarkLemmas
pub mod ProductionLemmas
