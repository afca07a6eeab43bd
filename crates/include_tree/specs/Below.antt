-- Words of the crates below, passed on: who needs them in definitions and proofs alone lists this crate in their place.
pub use Rattle.source_files.specs.Below.line_shape as line_shape
pub use Rattle.unit_steps.specs.Below.paste_origin as paste_origin
pub use Rattle.source_files.specs as source_files
pub use Rattle.unit_steps.specs as unit_steps
