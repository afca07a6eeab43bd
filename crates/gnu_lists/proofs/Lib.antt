pub mod StringLemmas
