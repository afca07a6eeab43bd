use Rattle.std.proofs.Common.{◌≡◌, ◌∙◌, ◌<◌, ℕ, List, Some, length, ap, subst, arith}
use Rattle.std.specs.List.{flat_map}
use Rattle.std.proofs.lemmas.List.{take_all}
use Rattle.cs_base.specs.declared.positions.Part.{Part}
use Rattle.eclass_map.specs.ClassTable.{Table, class_in}
use Rattle.analysis.specs.Below.scope_bind.Bound.{Bound}
use Rattle.analysis.specs.Below.scope_bind.declared.bound.Name.{Name}
use Rattle.analysis.specs.Below.unit_steps.Texts.{UnitTextValue}
use Rattle.analysis.proofs.OneUnitLemmas.{unit_of_number}
use Rattle.analysis.specs.Analysis.{UnitAnalysis}
use Rattle.class_marks.specs.Marks.{with_tokens}
use Rattle.class_marks.specs.Roles.{names_in, names_with}
use Rattle.class_marks.proofs.MarkLemmas.{are_marked, list_step}
use Rattle.class_marks.proofs.marks.marks_of.Goals as goal

pub loop-unit-preserved : goal.loop-unit-preserved
loop-unit-preserved c =
    let a = c.args.a.now in
    let units = a.value.units in
    let n = c.loop-unit.unit in
    let u = c.in_ok-one.one in
    let at = unit_of_number units n u c.in_ok-one.ensures in
    let names = ap (λ (b : Bound). b.names) c.bound.ensures in
    let old = c.loop-unit.marks.items in
    let here =
    c.in_ok-mark_unit.ensures
    ∙ ap (λ (t : Table). with_tokens t old (names_in c.args.role c.text.result.now c.bound.result.now.names)) c.classes-classes.ensures.answer
    ∙ ap (λ (t : UnitTextValue). with_tokens a.classes old (names_in c.args.role t c.bound.result.now.names)) c.text.ensures
    ∙ ap (λ (ns : List Name). with_tokens a.classes old (names_in c.args.role u.text ns)) names in
    list_step a.classes (λ (v : UnitAnalysis). names_in c.args.role v.text v.bound.names) units n u c.in_ok-marks.marks.items c.loop-unit.marks.items
    c.mark_unit.new.marks.items at c.loop-unit.invariant here

pub returns : goal.returns
unfolding names_with
returns c =
    let a = c.args.a.now in
    let all = take_all c.loop-unit.unit a.value.units (omega (arith, c.loop-unit-test.false, c.units-unit-end.ensures)) in
    are_marked a.classes c.in_ok-marks.marks.items (names_with c.args.role a.value) c.loop-unit.marks.items c.in_ok-marks.ensures.none
    (subst (λ (t : Table). (part : Part) (i : ℕ) → class_in t part ≡ Some i → i < length c.in_ok-marks.marks.items) c.classes-classes.ensures.answer
    c.in_ok-marks.ensures.enough)
    (c.loop-unit.invariant
    ∙ ap (λ (us : List UnitAnalysis). with_tokens a.classes c.in_ok-marks.marks.items (flat_map (λ (v : UnitAnalysis). names_in c.args.role v.text v.bound.names) us)) all)
