-- Words of the crates below, passed on: who needs them in definitions and proofs alone lists this crate in their place.
pub use Rattle.lexer.specs as lexer
pub use Rattle.line_shape.specs as line_shape
