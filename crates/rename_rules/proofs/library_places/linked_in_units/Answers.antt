use Rattle.std.proofs.Common.{List, ap, arith, length, subst, ◌∙◌}
use Rattle.cs_base.specs.declared.causes.Cause.TheVariants as cause
use Rattle.cs_base.specs.declared.positions.Pos.{Pos}
use Rattle.analysis.specs.Below.unit_steps.Texts.{UnitTextValue}
use Rattle.analysis.specs.Below.scope_bind.Bound.{Bound}
use Rattle.analysis.specs.Analysed.{Analysed}
use Rattle.analysis.proofs.OneUnitLemmas.{unit_of_number}
use Rattle.offences.specs.First.{standing, FirstThen}
use Rattle.offences.proofs.FirstLemmas.{then_none, then_all}
use Rattle.rename_rules.specs.LibraryPlaces.{linked_places}
use Rattle.rename_rules.proofs.LibraryLemmas.{linked_same}
use Rattle.rename_rules.proofs.UnitLemmas.{unit_next}
use Rattle.rename_rules.proofs.library_places.linked_in_units.Goals as goal

pub loop-unit-init : goal.loop-unit-init
loop-unit-init c = then_none c.args.renaming.now.class.analysis.value.table c.args.first

pub loop-unit-preserved : goal.loop-unit-preserved
loop-unit-preserved c =
    let class = c.args.renaming.now.class in
    let a = class.analysis.value in
    let same = rw c.class-class.ensures at c.analysis-a.ensures in
    let u = c.in_ok-one.one in
    let at = unit_of_number a.units c.loop-unit.unit u (rw same at c.in_ok-one.ensures) in
    let names = ap (λ (b : Bound). b.names) c.bound-bound.ensures in
    let same_places =
    linked_same class.members c.args.renaming.now.name u c.bound-bound.result.now.names c.names.result.now c.toks.result.now names
    (c.toks.ensures ∙ ap (λ (t : UnitTextValue). t.toks) c.text-text.ensures) (c.names.ensures ∙ names) in
    unit_next a.table cause.Reserved (linked_places class.members c.args.renaming.now.name) a.units c.loop-unit.unit u c.args.first c.loop-unit.now c.in_ok-now.now at
    c.loop-unit.invariant
    (subst (λ (ps : List Pos). FirstThen a.table (standing cause.Reserved ps) c.loop-unit.now c.in_ok-now.now) same_places (rw same at c.in_ok-now.ensures))

pub returns : goal.returns
returns c =
    let class = c.args.renaming.now.class in
    let a = class.analysis.value in
    let same = rw c.class-class.ensures at c.analysis-a.ensures in
    then_all a.table cause.Reserved (linked_places class.members c.args.renaming.now.name) a.units c.loop-unit.unit c.args.first c.loop-unit.now
    (omega (arith, ap (λ (x : Analysed). length x.value.units) same, c.units-unit-end.ensures, c.loop-unit-test.false)) c.loop-unit.invariant
