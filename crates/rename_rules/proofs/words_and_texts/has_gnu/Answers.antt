use Rattle.std.proofs.Common.{sym, arith}
use Rattle.rename_rules.proofs.GnuLemmas.{some_gnu, still_none, none_is_gnu}
use Rattle.rename_rules.proofs.words_and_texts.has_gnu.Goals as goal

pub returns-then-is_some : goal.returns-then-is_some
returns-then-is_some c = some_gnu c.args.a.now.value c.loop-unit.unit c.gnu_begin.result c.gnu_begin.ensures (sym c.if-is_some.ensures)

pub loop-unit-preserved : goal.loop-unit-preserved
loop-unit-preserved c = still_none c.args.a.now.value c.loop-unit.unit c.gnu_begin.result c.gnu_begin.ensures (sym c.if-is_some.ensures) c.loop-unit.invariant

pub returns : goal.returns
returns c = none_is_gnu c.args.a.now.value c.loop-unit.unit (omega (arith, c.units-unit-end.ensures, c.loop-unit-test.false)) c.loop-unit.invariant
