use Rattle.tree_laws.proofs.Binding.{bind_alike, bound_by_both, bound_by_c99}
use Rattle.tree_laws.proofs.standards.texts_are_bound_by_both_standards.Goals as goal

pub returns : goal.returns
returns c = record { alike = bind_alike; by_c11 = bound_by_both; by_c99 = bound_by_c99 }
