pub mod SpelledLemmas
pub mod StandardLemmas
pub mod AmongLemmas
pub mod PairLemmas
pub mod FirstLemmas
