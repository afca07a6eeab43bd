use Rattle.tree_laws.proofs.Rows.{read_by_both}
use Rattle.tree_laws.proofs.Back.{read_by_c99}
use Rattle.tree_laws.proofs.standards.texts_are_read_by_both_standards.Goals as goal

pub returns : goal.returns
returns c = record { by_c11 = read_by_both; by_c99 = read_by_c99 }
