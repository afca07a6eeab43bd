-- Words of the crates below, passed on: who needs them in definitions and proofs alone lists this crate in their place.
pub use Rattle.lexer.specs as lexer
pub use Rattle.include_tree.specs.Below.line_shape as line_shape
pub use Rattle.ws_file.specs as ws_file
pub use Rattle.include_tree.specs.Below.paste_origin as paste_origin
pub use Rattle.macro_expand.specs.Below.macro_body as macro_body
pub use Rattle.macro_expand.specs as macro_expand
pub use Rattle.include_tree.specs.Below.source_files as source_files
pub use Rattle.include_tree.specs.Below.unit_steps as unit_steps
pub use Rattle.include_tree.specs as include_tree
pub use Rattle.c99_tree.specs as c99_tree
pub use Rattle.c99_read.specs.Below.c99_grammar as c99_grammar
pub use Rattle.c99_read.specs as c99_read
pub use Rattle.gnu_bind.specs.Below.c_types as c_types
pub use Rattle.gnu_bind.specs.Below.scope_bind as scope_bind
pub use Rattle.gnu_bind.specs as gnu_bind
pub use Rattle.eclass_map.specs as eclass_map
pub use Rattle.linkage_join.specs as linkage_join
