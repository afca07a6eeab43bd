pub mod WalkLemmas
pub mod SetLemmas
pub mod CountLemmas
pub mod ListLemmas
pub mod LineLemmas
pub mod EditLemmas
pub mod RestLemmas
