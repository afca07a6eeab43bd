-- Words of the crates below, passed on: who needs them in definitions and proofs alone lists this crate in their place.
pub use Rattle.macro_body.specs.Below.paste_origin as paste_origin
pub use Rattle.macro_body.specs as macro_body
