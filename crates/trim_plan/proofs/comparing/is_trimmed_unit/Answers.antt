use Rattle.std.proofs.Common.{refl, ◌-◌, slice_get, subst}
use Rattle.analysis.specs.Analysis.{UnitAnalysis}
use Rattle.analysis.proofs.OneUnitLemmas.{same_unit}
use Rattle.trim_plan.specs.Left.{is_gone}
use Rattle.trim_plan.specs.Places.{IsCompared}
use Rattle.trim_plan.proofs.CompareLemmas.{unit-compared}
use Rattle.trim_plan.proofs.comparing.is_trimmed_unit.Goals as goal

pub returns : goal.returns
returns c = λ passed u v at there.
    let n = c.args.unit - 1 in
    let lines = c.args.lines.now in
    let first = c.in_ok-first.first in
    let second = c.in_ok-second.second in
    let own = same_unit (slice_get c.args.a.now.value.units n) u first at c.in_ok-first.ensures in
    let other = same_unit (slice_get c.args.b.now.value.units n) v second there c.in_ok-second.ensures in
    let are : IsCompared (is_gone lines first.text) first second =
    unit-compared lines first second c.text-had.result.now c.text-has.result.now c.toks-toks.result.now c.toks-others.result.now c.in_ok-count.count c.in_ok-left.left
    c.in_ok-old.old c.in_ok-new.new c.text-had.ensures c.text-has.ensures
    c.toks-toks.ensures c.toks-others.ensures c.in_ok-count.ensures c.in_ok-left.ensures (c.if-not-are_left.ensures refl)
    (λ k below is. c.if-not-are_alike.ensures refl (is_gone lines first.text) c.in_ok-count.count k is below)
    c.in_ok-old.ensures c.in_ok-new.ensures (c.is_pruned.ensures passed) in
    subst (λ (y : UnitAnalysis). IsCompared (is_gone lines u.text) u y) other (subst (λ (x : UnitAnalysis). IsCompared (is_gone lines x.text) x second) own are)
