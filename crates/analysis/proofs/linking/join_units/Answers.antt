use Rattle.std.proofs.Common.{◌≡◌, ◌≤◌, ◌+◌, ◌<◌, List, [], drop, take, length, Some, refl, ap, sym, subst, ◌∙◌, arith}
use Rattle.std.specs.Prelude.{slice_get}
use Rattle.std.specs.List.{flat_map}
use Rattle.std.proofs.lemmas.Option.{get_or_from_slice_get, slice_get_within}
use Rattle.cs_base.specs.Units.{UnitValue}
use Rattle.ws_file.specs.Workspace.{WorkspaceValue}
use Rattle.include_tree.specs.Below.unit_steps.declared.events.Reached.{Reached}
use Rattle.include_tree.specs.Below.unit_steps.Texts.{UnitTextValue}
use Rattle.analysis.specs.Analysis.{UnitAnalysis}
use Rattle.analysis.specs.Joins.{Joins}
use Rattle.analysis.specs.Links.{unit_links, names_of_units}
use Rattle.analysis.specs.Marking.{MarksTokens}
use Rattle.analysis.specs.Naming.{names_reached, names_processed}
use Rattle.analysis.proofs.ExternalLemmas.{of_units_end, of_units_more}
use Rattle.analysis.proofs.JoinLemmas.{awaits_more, awaits_end, units_more, units_end}
use Rattle.analysis.proofs.ProcessedLemmas.{marks_more, marks_all, marks_none}
use Rattle.analysis.proofs.linking.join_units.Goals as goal

pub loop-k-init : goal.loop-k-init
loop-k-init c = record {
  links = λ new later. later;
  marks = marks_none c.args.a.now.table [] c.args.marks.now.items refl;
  names = rw c.new-names.ensures.items refl;
  shared = c.new-shared.ensures c.args.a.now.table;
}

pub unit_over-requires : goal.unit_over-requires
unit_over-requires c = record { within = omega (arith, c.count-k-end.ensures.answer, c.loop-k-test.true); shared = c.loop-k.invariant.shared }

pub loop-k-preserved : goal.loop-k-preserved
loop-k-preserved c =
    let table = c.args.a.now.table in
    let us = c.args.a.now.units in
    let k = c.loop-k.k in
    let u = c.in_ok-unit.unit in
    let at : slice_get us k ≡ Some u = c.in_ok-unit.ensures.unit in
    let less : k < length us = slice_get_within us k u at in
    let reached : c.reached.result.now ≡ u.text.reached = c.reached.ensures ∙ ap (λ (t : UnitTextValue). t.reached) c.text.ensures in
    let own : UnitAnalysis → Type 0 = λ v. Joins (unit_links v) c.loop-k.classes c.join_unit.new.classes in
    record {
      links = awaits_more (unit_links u) (flat_map unit_links (drop k us)) (flat_map unit_links (drop (k + 1) us)) (flat_map unit_links us)
          c.args.classes.now c.loop-k.classes c.join_unit.new.classes
          (units_more us k u less (sym (get_or_from_slice_get us k u u at))) (subst own c.parts.ensures c.in_ok-join_unit.ensures) c.loop-k.invariant.links;
      marks = marks_more table (λ (v : UnitAnalysis). flat_map (names_reached table) v.text.reached) us k u
          c.args.marks.now.items c.loop-k.marks.items c.mark_reached.new.marks.items at c.loop-k.invariant.marks
          (subst (λ (rs : List Reached). MarksTokens table (flat_map (names_reached table) rs) c.loop-k.marks.items c.mark_reached.new.marks.items) reached c.in_ok-mark_reached.ensures);
      names = of_units_more c.units-units.result.now us k u c.loop-k.names.items c.push_names.new.all.items (names_of_units c.units-units.result.now us) at
          (rw c.parts-in-loop-k.ensures at c.in_ok-push_names.ensures) c.loop-k.invariant.names;
      shared = c.in_ok-unit.ensures.shared;
    }

pub returns-clause-links : goal.returns-clause-links
returns-clause-links c =
    let us = c.args.a.now.units in
    let past : length us ≤ c.loop-k.k = omega (arith, c.count-k-end.ensures.answer, c.loop-k-test.false) in
    awaits_end (flat_map unit_links (drop c.loop-k.k us)) (flat_map unit_links us) c.args.classes.now c.loop-k.classes (units_end us c.loop-k.k past) c.loop-k.invariant.links

pub returns-clause-marks : goal.returns-clause-marks
unfolding names_processed
returns-clause-marks c =
    let table = c.args.a.now.table in
    let us = c.args.a.now.units in
    let past : length us ≤ c.loop-k.k = omega (arith, c.count-k-end.ensures.answer, c.loop-k-test.false) in
    marks_all table (λ (u : UnitAnalysis). flat_map (names_reached table) u.text.reached) us c.loop-k.k c.args.marks.now.items c.loop-k.marks.items past c.loop-k.invariant.marks

pub returns-clause-names : goal.returns-clause-names
returns-clause-names c =
    let us = c.args.a.now.units in
    let past : length us ≤ c.loop-k.k = omega (arith, c.count-k-end.ensures.answer, c.loop-k-test.false) in
    let units : c.units-units.result.now ≡ c.args.a.now.workspace.units = c.units-units.ensures.answer ∙ ap (λ (w : WorkspaceValue). w.units) c.workspace.ensures in
    of_units_end c.units-units.result.now us c.loop-k.k c.loop-k.names.items (names_of_units c.units-units.result.now us) (omega (arith, past)) c.loop-k.invariant.names
    ∙ ap (λ (ws : List UnitValue). names_of_units ws us) units
