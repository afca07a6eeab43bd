use Rattle.std.proofs.Common.{◌≡◌, ◌≤◌, List, length, Some, ap, subst, ◌∙◌, arith}
use Rattle.std.specs.Prelude.{slice_get}
use Rattle.std.specs.List.{flat_map}
use Rattle.include_tree.specs.Below.unit_steps.declared.events.Reached.{Reached}
use Rattle.include_tree.specs.Below.unit_steps.Texts.{UnitTextValue}
use Rattle.analysis.specs.Analysis.{UnitAnalysis}
use Rattle.analysis.specs.Marking.{MarksTokens}
use Rattle.analysis.specs.Naming.{names_reached, names_processed}
use Rattle.analysis.proofs.ProcessedLemmas.{marks_more, marks_all}
use Rattle.analysis.proofs.processed.mark_units.Goals as goal

pub loop-k-preserved : goal.loop-k-preserved
loop-k-preserved c =
    let table = c.args.a.now.table in
    let u = c.in_ok-unit.unit in
    let reached : c.reached.result.now ≡ u.text.reached = c.reached.ensures ∙ ap (λ (t : UnitTextValue). t.reached) c.text.ensures in
    marks_more table (λ (v : UnitAnalysis). flat_map (names_reached table) v.text.reached) c.args.a.now.units c.loop-k.k u
    c.args.marks.now.items c.loop-k.marks.items c.mark_reached.new.marks.items c.in_ok-unit.ensures c.loop-k.invariant
    (subst (λ (rs : List Reached). MarksTokens table (flat_map (names_reached table) rs) c.loop-k.marks.items c.mark_reached.new.marks.items) reached c.in_ok-mark_reached.ensures)

pub returns : goal.returns
unfolding names_processed
returns c =
    let table = c.args.a.now.table in
    let past : length c.args.a.now.units ≤ c.loop-k.k = omega (arith, c.count-k-end.ensures.answer, c.loop-k-test.false) in
    marks_all table (λ (u : UnitAnalysis). flat_map (names_reached table) u.text.reached) c.args.a.now.units c.loop-k.k
    c.args.marks.now.items c.loop-k.marks.items past c.loop-k.invariant
