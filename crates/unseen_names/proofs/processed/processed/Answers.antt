use Rattle.std.proofs.Common.{◌≡◌, ◌≤◌, [], length, take, refl, sym, arith, rules}
use Rattle.std.specs.List.{list_any}
use Rattle.analysis.proofs.OneUnitLemmas.{unit_of_number}
use Rattle.unseen_names.specs.Unseen.{is_in_unit}
use Rattle.unseen_names.proofs.CharacterLemmas.{adds_all, adds_none, from_blank}
use Rattle.unseen_names.proofs.ProcessedLemmas.{unit_more}
use Rattle.unseen_names.proofs.processed.processed.Goals as goal

pub loop-unit-init : goal.loop-unit-init
loop-unit-init c = adds_none (λ p. list_any (is_in_unit p) (take 0 c.args.a.now.value.units)) c.new-marks.result.items (λ p. refl)

pub loop-unit-preserved : goal.loop-unit-preserved
loop-unit-preserved c =
    let units = c.args.a.now.value.units in
    let u = c.in_ok-one.one in
    unit_more units c.loop-unit.unit u (unit_of_number units c.loop-unit.unit u c.in_ok-one.ensures) c.new-marks.result.items c.loop-unit.marks.items c.mark_tokens.new.marks.items c.text.result.now
    c.toks.result.now (sym c.text.ensures) c.toks.ensures c.loop-unit.invariant c.in_ok-mark_tokens.ensures

pub returns : goal.returns
returns c =
    let units = c.args.a.now.value.units in
    let past : length units ≤ c.loop-unit.unit = omega (arith, c.loop-unit-test.false, c.units-unit-end.ensures) in
    let none : c.new-marks.result.items ≡ [] = search rules in
    from_blank (λ p. list_any (is_in_unit p) units) c.new-marks.result.items c.loop-unit.marks.items none
    (adds_all (λ p u. is_in_unit p u) units c.loop-unit.unit c.new-marks.result.items c.loop-unit.marks.items past c.loop-unit.invariant)
