pub mod MessageLemmas
mod NumberLemmas
mod TellingLemmas
mod EditedLemmas
