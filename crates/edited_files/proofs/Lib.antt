pub mod OrderLemmas
pub mod PlaceLemmas
pub mod PutLemmas
pub mod MadeLemmas
pub mod CopyLemmas
pub mod ApplyingLemmas
pub mod EditLemmas
