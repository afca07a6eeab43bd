pub mod LinkageLemmas
pub mod FirstsLemmas
pub mod AlikeLemmas
