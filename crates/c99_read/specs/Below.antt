-- Words of the crates below, passed on: who needs them in definitions and proofs alone lists this crate in their place.
pub use Rattle.c99_grammar.specs as c99_grammar
