use Rattle.std.proofs.Common.{ℕ, [], List, ap, arith, length, subst, ◌∙◌}
use Rattle.analysis.specs.Below.scope_bind.Bound.{Bound}
use Rattle.analysis.specs.Below.unit_steps.Texts.{UnitTextValue}
use Rattle.analysis.specs.Analysed.{Analysed}
use Rattle.analysis.proofs.OneUnitLemmas.{unit_of_number}
use Rattle.rename_rules.specs.GnuOffences.{symbols, symbols_in}
use Rattle.rename_rules.specs.GnuTexts.{AddTexts}
use Rattle.rename_rules.specs.Undeclared.{declared, declared_in, project_at, project_unit, project_units}
use Rattle.rename_rules.proofs.CallLemmas.{as_many, have_all, have_next, unit_in_project}
use Rattle.rename_rules.proofs.GnuLemmas.{symbols_same, units_next, units_all}
use Rattle.rename_rules.proofs.symbols.old_spellings.Goals as goal

pub loop-unit-preserved : goal.loop-unit-preserved
loop-unit-preserved c =
    let class = c.args.class.now in
    let a = class.analysis.value in
    let k = c.loop-unit.unit in
    let u = c.in_ok-one.one in
    let at = unit_of_number a.units k u (rw c.analysis-a.ensures at c.in_ok-one.ensures) in
    let names = ap (λ (b : Bound). b.names) c.bound-bound.ensures in
    let same =
    symbols_same class.members u c.bound-bound.result.now.names c.names.result.now c.toks.result.now (c.toks.ensures ∙ ap (λ (t : UnitTextValue). t.toks) c.text-text.ensures) names
    (c.names.ensures ∙ names) in (
      units_next (symbols_in class.members) a.units k u c.loop-unit.texts.items c.push_names.new.olds.items at c.loop-unit.invariant.0
          (subst (λ (ys : List (List ℕ)). AddTexts c.loop-unit.texts.items ys c.push_names.new.olds.items) same c.in_ok-push_names.ensures),
      have_next (declared_in class.members) (project_units a.workspace.units a.units) k (project_unit (project_at a.workspace.units k) u) [] c.loop-unit.names.items
          c.push_declared.new.names.items (unit_in_project a.workspace.units a.units k u at) c.loop-unit.invariant.1
          (rw (rw c.analysis-a.ensures at c.project_of.ensures) at c.in_ok-push_declared.ensures),
    )

pub returns-clause-known : goal.returns-clause-known
unfolding symbols
returns-clause-known c =
    let class = c.args.class.now in
    units_all (symbols_in class.members) class.analysis.value.units c.loop-unit.unit c.loop-unit.texts.items
    (omega (arith, ap (λ (x : Analysed). length x.value.units) c.analysis-a.ensures, c.units-unit-end.ensures, c.loop-unit-test.false)) c.loop-unit.invariant.0

pub returns-clause-own : goal.returns-clause-own
unfolding declared
returns-clause-own c =
    let class = c.args.class.now in
    let a = class.analysis.value in
    have_all (declared_in class.members) (project_units a.workspace.units a.units) c.loop-unit.unit [] c.loop-unit.names.items
    (omega (arith, as_many a.workspace.units a.units, ap (λ (x : Analysed). length x.value.units) c.analysis-a.ensures, c.units-unit-end.ensures, c.loop-unit-test.false)) c.loop-unit.invariant.1
