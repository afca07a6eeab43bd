-- Lemmas of the crates below, passed on in the same way.
pub use Rattle.source_files.proofs as source_files
