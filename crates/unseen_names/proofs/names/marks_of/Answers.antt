use Rattle.std.proofs.Common.{◌≡◌, ◌≤◌, [], length, take, refl, sym, ap, arith, rules}
use Rattle.std.specs.List.{list_any}
use Rattle.analysis.specs.Below.scope_bind.Bound.{Bound}
use Rattle.analysis.proofs.OneUnitLemmas.{unit_of_number}
use Rattle.unseen_names.specs.Groups.{in_unit}
use Rattle.unseen_names.proofs.CharacterLemmas.{adds_all, adds_none, from_blank}
use Rattle.unseen_names.proofs.ProcessedLemmas.{names_more}
use Rattle.unseen_names.proofs.names.marks_of.Goals as goal

pub loop-unit-init : goal.loop-unit-init
loop-unit-init c = adds_none (λ p. list_any (in_unit c.args.group p) (take 0 c.args.a.now.value.units)) c.new-marks.result.items (λ p. refl)

pub loop-unit-preserved : goal.loop-unit-preserved
loop-unit-preserved c =
    let units = c.args.a.now.value.units in
    let n = c.loop-unit.unit in
    let u = c.in_ok-one.one in
    let at = unit_of_number units n u c.in_ok-one.ensures in
    let names = sym (ap (λ (b : Bound). b.names) c.bound.ensures) in
    names_more units n u at c.new-marks.result.items c.loop-unit.marks.items c.mark_unit.new.marks.items c.args.group c.text.result.now
    c.bound.result.now.names (sym c.text.ensures) names c.loop-unit.invariant c.in_ok-mark_unit.ensures

pub returns : goal.returns
returns c =
    let units = c.args.a.now.value.units in
    let g = c.args.group in
    let past : length units ≤ c.loop-unit.unit = omega (arith, c.loop-unit-test.false, c.units-unit-end.ensures) in
    let none : c.new-marks.result.items ≡ [] = search rules in
    from_blank (λ p. list_any (in_unit g p) units) c.new-marks.result.items c.loop-unit.marks.items none
    (adds_all (λ p u. in_unit g p u) units c.loop-unit.unit c.new-marks.result.items c.loop-unit.marks.items past c.loop-unit.invariant)
