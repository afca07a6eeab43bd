-- Words of a crate below, passed on: who needs them in definitions and proofs alone lists this crate in its place.
pub use Rattle.reordered.specs as reordered
