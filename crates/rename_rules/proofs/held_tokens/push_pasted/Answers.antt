use Rattle.std.proofs.Common.{length, ap, arith}
use Rattle.analysis.specs.Analysed.{Analysed}
use Rattle.analysis.specs.Analysis.{UnitAnalysis}
use Rattle.rename_rules.specs.Tokens.{pasted_tokens}
use Rattle.offences.specs.Tokens.{holds_member}
use Rattle.std.proofs.lemmas.List.{take_all}
use Rattle.analysis.proofs.OneUnitLemmas.{unit_of_number}
use Rattle.rename_rules.proofs.UnitLemmas.{held_units_more}
use Rattle.rename_rules.proofs.held_tokens.push_pasted.Goals as goal

pub loop-unit-preserved : goal.loop-unit-preserved
loop-unit-preserved c =
    let u = c.in_ok-one.one in
    let at = unit_of_number c.args.class.now.analysis.value.units c.loop-unit.unit u (rw c.analysis-a.ensures at c.in_ok-one.ensures) in
    held_units_more (holds_member c.args.class.now.members) (λ (u : UnitAnalysis). u.text.pasted) c.args.class.now.analysis.value.units c.loop-unit.unit u
    c.args.out.now.items c.loop-unit.out.items c.push_all.new.out.items at c.loop-unit.invariant
    (rw (← c.text-text.ensures, ← c.pasted.ensures) c.in_ok-push_all.ensures)

pub returns : goal.returns
unfolding pasted_tokens
returns c =
    let all = take_all c.loop-unit.unit c.args.class.now.analysis.value.units (omega (arith, ap (λ (x : Analysed). length x.value.units) c.analysis-a.ensures, c.units-unit-end.ensures)) in
    rw (← all) c.loop-unit.invariant
