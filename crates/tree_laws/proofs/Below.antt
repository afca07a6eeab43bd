-- Lemmas of the crates below, passed on: who needs them in proofs alone lists this crate in their place.
pub use Rattle.c99_read.proofs as c99_read
