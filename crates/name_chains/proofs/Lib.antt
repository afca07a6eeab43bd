mod LatestLemmas
mod KeptLemmas
mod SpellingLemmas
mod ChainLemmas
mod LinkedLemmas
mod LinkLemmas
mod ChainedMore
mod ChainedOver
mod ChainTables
mod KeptChains
mod RankLemmas
mod MemberLemmas
mod LiftLemmas
pub mod Reversed
