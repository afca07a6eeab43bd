-- Lemmas of a crate below, passed on in the same way.
pub use Rattle.same_readings.proofs as same_readings
