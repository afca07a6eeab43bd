pub mod StringLemmas
pub mod MadeLemmas
