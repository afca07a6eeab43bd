-- Lemmas of the crates below, passed on in the same way.
pub use Rattle.macro_body.proofs as macro_body
