use Rattle.std.proofs.Common.{sym, ◌∙◌}
use Rattle.cond_eval.proofs.OperatorLemmas.{close_none, and_known, or_known}
use Rattle.cond_eval.proofs.operators.operator_of.Goals as goal

pub returns-then-is_close : goal.returns-then-is_close
returns-then-is_close c = close_none c.args.text.now (sym c.is_close.ensures ∙ c.if-is_close.true)

pub returns-then-is_and : goal.returns-then-is_and
returns-then-is_and c = and_known c.args.text.now (sym c.is_and.ensures ∙ c.if-is_and.true)

pub returns-then-is_or : goal.returns-then-is_or
returns-then-is_or c = or_known c.args.text.now (sym c.is_or.ensures ∙ c.if-is_or.true)
