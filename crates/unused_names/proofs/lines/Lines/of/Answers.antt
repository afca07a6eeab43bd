use Rattle.std.proofs.Common.{◌≡◌, ℕ, length, sym, ap, subst, arith}
use Rattle.analysis.specs.Below.scope_bind.Bound.{Bound}
use Rattle.analysis.proofs.OneUnitLemmas.{unit_of_number}
use Rattle.unused_names.specs.Lines.{AreLines, lines_in}
use Rattle.unused_names.proofs.LineLemmas.{end_of_unit, no_lines}
use Rattle.unused_names.proofs.lines.Lines.of.Goals as goal

pub loop-unit-init : goal.loop-unit-init
loop-unit-init c =
    no_lines c.args.a.now.value.units (lines_in c.new-lines.result.all.items c.new-lines.result.needed) c.new-lines.ensures.all c.new-lines.ensures.needs

pub loop-unit-preserved : goal.loop-unit-preserved
loop-unit-preserved c =
    let units = c.args.a.now.value.units in
    let n = c.loop-unit.unit in
    let new = c.push_unit.new.self in
    let u = c.in_ok-one.one in
    let at = unit_of_number units n u c.in_ok-one.ensures in
    let text = sym c.text.ensures in
    let names = sym (ap (λ (b : Bound). b.names) c.bound.ensures) in
    let now = c.in_ok-push_unit.ensures.goes_on units n u at text names c.loop-unit.invariant in
    end_of_unit units n u (lines_in new.all.items new.needed) at (rw text now)

pub returns : goal.returns
returns c =
    let units = c.args.a.now.value.units in
    let all : c.loop-unit.unit ≡ length units = omega (arith, c.loop-unit-test.false, c.loop-unit.auto.unit-end, c.units-unit-end.ensures) in
    let P : ℕ → Type 0 = λ n. AreLines units n 0 (lines_in c.loop-unit.lines.all.items c.loop-unit.lines.needed) in
    subst P all c.loop-unit.invariant
