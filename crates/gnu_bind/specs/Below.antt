-- Words of the crates below, passed on.
pub use Rattle.c_types.specs as c_types
pub use Rattle.scope_bind.specs as scope_bind
