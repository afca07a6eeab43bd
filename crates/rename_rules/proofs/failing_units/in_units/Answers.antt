use Rattle.std.proofs.Common.{ap, arith, length}
use Rattle.analysis.specs.Analysed.{Analysed}
use Rattle.offences.specs.Moves.{renaming_by}
use Rattle.offences.proofs.FirstLemmas.{then_none}
use Rattle.offences.proofs.MovedLemmas.{renaming_same}
use Rattle.rename_rules.proofs.GnuLemmas.{failing_next, failing_all}
use Rattle.rename_rules.proofs.failing_units.in_units.Goals as goal

pub loop-unit-init : goal.loop-unit-init
loop-unit-init c = then_none c.args.renaming.now.class.analysis.value.table c.args.first

pub loop-unit-preserved : goal.loop-unit-preserved
loop-unit-preserved c =
    let class = c.args.renaming.now.class in
    let a = class.analysis.value in
    let same = rw c.class-class.ensures at c.analysis-a.ensures in
    failing_next a (renaming_by c.in_ok-moves.moves) c.loop-unit.unit c.args.first c.loop-unit.now _
    (omega (arith, ap (λ (x : Analysed). length x.value.units) same, c.units-unit-end.ensures, c.loop-unit-test.true))
    c.loop-unit.invariant (rw same at c.in_ok-now.ensures)

pub returns : goal.returns
returns c =
    let class = c.args.renaming.now.class in
    let a = class.analysis.value in
    let name = c.args.renaming.now.name in
    let same = rw c.class-class.ensures at c.analysis-a.ensures in
    failing_all a class.members name (renaming_by c.in_ok-moves.moves) c.loop-unit.unit c.args.first c.loop-unit.now
    (omega (arith, ap (λ (x : Analysed). length x.value.units) same, c.units-unit-end.ensures, c.loop-unit-test.false))
    (renaming_same a class.members name c.in_ok-moves.moves (rw (same, c.members.ensures.answer, c.name.ensures, c.class-class.ensures) at c.in_ok-moves.ensures))
    c.loop-unit.invariant
