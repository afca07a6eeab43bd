use Rattle.tree_laws.proofs.Texts.{units_agree, parts_agree}
use Rattle.tree_laws.proofs.typedefs.names_are_read_as_they_are_bound.Goals as goal

pub returns-clause-units : goal.returns-clause-units
returns-clause-units c = units_agree

pub returns-clause-parts : goal.returns-clause-parts
returns-clause-parts c = parts_agree
