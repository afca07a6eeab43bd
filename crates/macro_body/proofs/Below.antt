-- Lemmas of the crates below, passed on in the same way.
pub use Rattle.line_shape.proofs as line_shape
pub use Rattle.paste_origin.proofs as paste_origin
