-- Lemmas of the crates below, passed on in the same way.
pub use Rattle.macro_expand.proofs as macro_expand
pub use Rattle.cond_eval.proofs as cond_eval
