-- Words of the crates below, passed on: who needs them in definitions and proofs alone lists this crate in their place.
pub use Rattle.macro_expand.specs.Below.paste_origin as paste_origin
pub use Rattle.macro_expand.specs.Below.macro_body as macro_body
pub use Rattle.macro_expand.specs as macro_expand
pub use Rattle.cond_eval.specs as cond_eval
