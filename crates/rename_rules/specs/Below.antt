-- Words of a crate below, passed on: who needs them in definitions and proofs alone lists this crate in its place.
pub use Rattle.same_readings.specs as same_readings
