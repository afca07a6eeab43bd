use Rattle.std.proofs.Common.{ap, arith, length}
use Rattle.analysis.specs.Analysed.{Analysed}
use Rattle.rename_rules.specs.GnuOffences.{gnu_offences, symbols, unit_offences}
use Rattle.rename_rules.specs.Undeclared.{declared}
use Rattle.rename_rules.proofs.GnuLemmas.{against_all, against_next}
use Rattle.rename_rules.proofs.words_and_texts.in_units.Goals as goal

pub loop-unit-preserved : goal.loop-unit-preserved
loop-unit-preserved c =
    let class = c.args.renaming.now.class in
    let a = class.analysis.value in
    let same = rw c.class-class.ensures at c.analysis-a.ensures in
    let olds = c.in_ok-olds.olds in
    against_next a class.members c.args.renaming.now.name olds.texts.items olds.names.items c.loop-unit.unit c.args.first c.loop-unit.now _
    (omega (arith, ap (λ (x : Analysed). length x.value.units) same, c.units-unit-end.ensures, c.loop-unit-test.true))
    (rw c.class-class.ensures at c.in_ok-olds.ensures.known) (rw c.class-class.ensures at c.in_ok-olds.ensures.own) c.loop-unit.invariant
    (rw same at c.in_ok-now.ensures)

pub returns : goal.returns
unfolding gnu_offences
returns c =
    let class = c.args.renaming.now.class in
    let a = class.analysis.value in
    let same = rw c.class-class.ensures at c.analysis-a.ensures in
    against_all a (unit_offences class.members c.args.renaming.now.name (symbols a class.members) (declared a class.members)) c.loop-unit.unit c.args.first c.loop-unit.now
    (omega (arith, ap (λ (x : Analysed). length x.value.units) same, c.units-unit-end.ensures, c.loop-unit-test.false)) c.loop-unit.invariant
