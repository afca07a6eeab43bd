use Rattle.std.proofs.Common.{ap, arith, length}
use Rattle.offences.proofs.FirstLemmas.{then_none}
use Rattle.analysis.specs.Analysed.{Analysed}
use Rattle.template_rules.specs.GnuOffences.{gnu_unit, spellings}
use Rattle.template_rules.proofs.GnuLemmas.{against_next}
use Rattle.template_rules.proofs.StepLemmas.{more_all}
use Rattle.template_rules.proofs.gnu_units.at_gnu_units.Goals as goal

pub loop-unit-init : goal.loop-unit-init
loop-unit-init c = then_none c.args.functions.now.analysis.value.table c.args.first

pub loop-unit-preserved : goal.loop-unit-preserved
loop-unit-preserved c =
    let ms = c.args.functions.now.members in
    let a = c.args.functions.now.analysis.value in
    against_next a ms (spellings ms a) c.loop-unit.unit c.args.first c.loop-unit.now _
    (omega (arith, ap (λ (x : Analysed). length x.value.units) c.analysis-a.ensures, c.units-unit-end.ensures, c.loop-unit-test.true)) c.loop-unit.invariant
    (rw (c.deref.ensures.value, c.in_ok-words.ensures) at c.in_ok-now.ensures)

pub returns : goal.returns
returns c =
    let ms = c.args.functions.now.members in
    let a = c.args.functions.now.analysis.value in
    record {
      answer = more_all a.table (gnu_unit ms (spellings ms a)) a.units c.loop-unit.unit c.args.first c.loop-unit.now
          (omega (arith, ap (λ (x : Analysed). length x.value.units) c.analysis-a.ensures, c.units-unit-end.ensures, c.loop-unit-test.false)) c.loop-unit.invariant;
    }
