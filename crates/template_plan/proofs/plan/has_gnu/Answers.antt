use Rattle.std.proofs.Common.{sym, arith}
use Rattle.template_plan.proofs.MeaningLemmas.{no_more, none_placed}
use Rattle.template_plan.proofs.plan.has_gnu.Goals as goal

pub loop-unit-preserved : goal.loop-unit-preserved
loop-unit-preserved c =
    no_more c.args.a.now.value.units c.loop-unit.unit c.gnu_begin.result c.gnu_begin.ensures (sym c.if-is_some.ensures) c.loop-unit.invariant

pub returns : goal.returns
returns c = λ none.
    none_placed c.args.a.now.value c.loop-unit.unit (omega (arith, c.units-unit-end.ensures, c.loop-unit-test.false)) c.loop-unit.invariant
