use Rattle.std.proofs.Common.{◌≡◌, ◌∙◌, ◌<◌, ℕ, List, Some, length, ap, sym, subst, arith}
use Rattle.std.specs.List.{flat_map}
use Rattle.std.proofs.lemmas.List.{length-map, take_all}
use Rattle.cs_base.specs.declared.positions.Part.{Part}
use Rattle.eclass_map.specs.ClassTable.{Table, class_in}
use Rattle.analysis.specs.Below.scope_bind.Bound.{Bound}
use Rattle.analysis.specs.Below.scope_bind.declared.bound.Name.{Name}
use Rattle.analysis.specs.Below.unit_steps.Texts.{UnitTextValue}
use Rattle.analysis.proofs.OneUnitLemmas.{unit_of_number}
use Rattle.analysis.specs.Analysis.{UnitAnalysis}
use Rattle.class_marks.specs.ClassRoles.{has_role, of_role}
use Rattle.class_marks.specs.Marks.{with_tokens}
use Rattle.class_marks.specs.Roles.{names_in, names_with}
use Rattle.class_marks.proofs.MarkLemmas.{are_marked, list_step}
use Rattle.class_marks.proofs.all_roles.roles_of.Goals as goal

pub loop-unit-preserved : goal.loop-unit-preserved
loop-unit-preserved c = λ role.
    let a = c.args.a.now in
    let units = a.value.units in
    let n = c.loop-unit.unit in
    let u = c.in_ok-one.one in
    let at = unit_of_number units n u c.in_ok-one.ensures in
    let names = ap (λ (b : Bound). b.names) c.bound.ensures in
    let old = of_role role c.loop-unit.all.items in
    let here =
    c.in_ok-add_unit.ensures role
    ∙ ap (λ (t : Table). with_tokens t old (names_in role c.text.result.now c.bound.result.now.names)) c.classes-classes.ensures.answer
    ∙ ap (λ (t : UnitTextValue). with_tokens a.classes old (names_in role t c.bound.result.now.names)) c.text.ensures
    ∙ ap (λ (ns : List Name). with_tokens a.classes old (names_in role u.text ns)) names in
    list_step a.classes (λ (v : UnitAnalysis). names_in role v.text v.bound.names) units n u (of_role role c.in_ok-all.all.items) old
    (of_role role c.add_unit.new.all.items) at (c.loop-unit.invariant role) here

pub returns : goal.returns
unfolding names_with
returns c = λ role.
    let a = c.args.a.now in
    let all = take_all c.loop-unit.unit a.value.units (omega (arith, c.loop-unit-test.false, c.units-unit-end.ensures)) in
    let blank = c.in_ok-all.all.items in
    let long = length-map blank (has_role role) in
    let enough = subst (λ (t : Table). (part : Part) (i : ℕ) → class_in t part ≡ Some i → i < length blank) c.classes-classes.ensures.answer
    c.in_ok-all.ensures.enough in
    are_marked a.classes (of_role role blank) (names_with role a.value) (of_role role c.loop-unit.all.items) (c.in_ok-all.ensures.none role)
    (λ part i is. subst (λ (n : ℕ). i < n) (sym long) (enough part i is))
    (c.loop-unit.invariant role
    ∙ ap (λ (us : List UnitAnalysis). with_tokens a.classes (of_role role blank) (flat_map (λ (v : UnitAnalysis). names_in role v.text v.bound.names) us)) all)
