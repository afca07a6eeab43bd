use Rattle.std.proofs.Common.{sym, ◌∙◌}
use Rattle.include_tree.proofs.main_walk.unless_passed.Goals as goal

pub returns-clause-other : goal.returns-clause-other
returns-clause-other c = λ table. sym (c.is_read_once.ensures table) ∙ c.if-is_read_once.false
