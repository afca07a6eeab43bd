-- Lemmas of the crates below, passed on in the same way.
pub use Rattle.lexer.proofs as lexer
pub use Rattle.line_shape.proofs as line_shape
