use Rattle.std.proofs.Common.{sym, ◌∙◌}
use Rattle.line_shape.proofs.BadLinesLemmas.{cause_on-define}
use Rattle.line_shape.proofs.directive.define_cause.Goals as goal

pub returns-in-None : goal.returns-in-None
returns-in-None c =
    rw (cause_on-define c.args.operands.now (sym c.undef_cause.ensures ∙ c.in-None.is)) (rw c.behind_name.ensures at c.definition_cause.ensures)
