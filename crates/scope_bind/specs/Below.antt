-- The words of lower floors that a walk over units of another dialect speaks with.
pub use Rattle.name_chains.specs as name_chains
