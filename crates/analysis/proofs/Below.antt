-- Lemmas of the crates below, passed on in the same way.
pub use Rattle.lexer.proofs as lexer
pub use Rattle.include_tree.proofs.Below.source_files as source_files
pub use Rattle.include_tree.proofs as include_tree
pub use Rattle.eclass_map.proofs as eclass_map
pub use Rattle.linkage_join.proofs as linkage_join
