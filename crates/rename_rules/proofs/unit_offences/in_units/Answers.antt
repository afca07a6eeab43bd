use Rattle.std.proofs.Common.{◌≡◌, ◌≤◌, List, None, ap, length, refl, subst, arith, ◌∙◌}
use Rattle.std.specs.List.{flat_map}
use Rattle.std.proofs.lemmas.List.{take_all}
use Rattle.cs_base.specs.declared.causes.Cause.TheVariants as cause
use Rattle.cs_base.specs.declared.positions.Pos.{Pos}
use Rattle.analysis.specs.Below.unit_steps.Texts.{UnitTextValue}
use Rattle.analysis.specs.Below.scope_bind.Bound.{Bound}
use Rattle.analysis.specs.Analysed.{Analysed}
use Rattle.analysis.specs.Analysis.{UnitAnalysis}
use Rattle.analysis.proofs.OneUnitLemmas.{unit_of_number}
use Rattle.offences.specs.First.{standing, FirstThen}
use Rattle.offences.proofs.FirstLemmas.{then_none, then_all}
use Rattle.rename_rules.specs.InUnits.{kept_in}
use Rattle.rename_rules.specs.Offences.{bare_places, header_places, occurring_place, shadowed_places}
use Rattle.rename_rules.specs.RenamingValue.{held}
use Rattle.rename_rules.specs.Tokens.{pasted_tokens, starts_in}
use Rattle.rename_rules.proofs.InUnitLemmas.{kept_strings}
use Rattle.rename_rules.proofs.OccurrenceLemmas.{bare_unit}
use Rattle.rename_rules.proofs.UnitLemmas.{unit_next, unit_tokens_next}
use Rattle.rename_rules.proofs.unit_offences.in_units.Goals as goal

pub loop-unit-init : goal.loop-unit-init
loop-unit-init c =
    let none = then_none c.args.renaming.now.class.analysis.value.table None in
    (none, none, none, none)

pub loop-unit-preserved : goal.loop-unit-preserved
loop-unit-preserved c =
    let class = c.args.renaming.now.class in
    let a = class.analysis.value in
    let ms = class.members in
    let name = c.args.renaming.now.name in
    let units = a.units in
    let n = c.loop-unit.unit in
    let own = c.class-class.ensures in
    let same = rw own at c.analysis-a.ensures in
    let u = c.in_ok-one.one in
    let at = unit_of_number units n u (rw same at c.in_ok-one.ensures) in
    let text = c.text-text.ensures in
    let bound = c.bound-bound.ensures in
    let kept = rw (same, own, c.stringized.ensures, text) at c.at_strings-kept.ensures in
    let headers = rw (same, own, c.header.ensures, text) at c.in_tokens-headers.ensures in
    let pasted = rw (same, c.pasted.ensures, text) at c.occurring_in-pasted.ensures in
    let places =
    bare_unit a ms name (held class) c.table-table.result.now refl c.table-table.ensures u
    c.toks.result.now c.typedefs.result.now c.bare.result.now (c.toks.ensures ∙ ap (λ (t : UnitTextValue). t.toks) text)
    (c.typedefs.ensures ∙ ap (λ (b : Bound). b.typedefs) bound) (c.bare.ensures ∙ ap (λ (b : Bound). b.bare) bound) in (
      unit_next a.table cause.Stringized (λ (u : UnitAnalysis). kept_in ms c.args.strings u.text.stringized) units n u None c.loop-unit.kept c.at_strings-kept.result
          at c.loop-unit.invariant.0 kept,
      unit_next a.table cause.HeaderName (λ (u : UnitAnalysis). flat_map (starts_in ms) u.text.header) units n u None c.loop-unit.headers c.in_tokens-headers.result
          at c.loop-unit.invariant.1 headers,
      unit_tokens_next a.table cause.Occurs (occurring_place ms name (held class)) (λ (u : UnitAnalysis). u.text.pasted) units n u None c.loop-unit.pasted
          c.occurring_in-pasted.result at c.loop-unit.invariant.2 pasted,
      unit_next a.table cause.ShadowedTypedef (λ (u : UnitAnalysis). flat_map (bare_places a ms u) u.bound.bare) units n u None c.loop-unit.bare c.at_indices-bare.result
          at c.loop-unit.invariant.3 (rw places (rw same at c.at_indices-bare.ensures)),
    )

pub returns : goal.returns
unfolding header_places pasted_tokens shadowed_places
returns c =
    let class = c.args.renaming.now.class in
    let a = class.analysis.value in
    let ms = class.members in
    let name = c.args.renaming.now.name in
    let same = rw c.class-class.ensures at c.analysis-a.ensures in
    let n = c.loop-unit.unit in
    let past : length a.units ≤ n = omega (arith, ap (λ (x : Analysed). length x.value.units) same, c.units-unit-end.ensures, c.loop-unit-test.false) in
    record {
      kept = subst (λ (ps : List Pos). FirstThen a.table (standing cause.Stringized ps) None c.loop-unit.kept) (kept_strings a ms c.args.strings)
          (then_all a.table cause.Stringized (λ (u : UnitAnalysis). kept_in ms c.args.strings u.text.stringized) a.units n None c.loop-unit.kept past c.loop-unit.invariant.0);
      headers = then_all a.table cause.HeaderName (λ (u : UnitAnalysis). flat_map (starts_in ms) u.text.header) a.units n None c.loop-unit.headers past c.loop-unit.invariant.1;
      pasted = subst (λ (us : List UnitAnalysis). FirstThen a.table (standing cause.Occurs (flat_map (occurring_place ms name (held class)) (flat_map (λ (u : UnitAnalysis). u.text.pasted) us))) None c.loop-unit.pasted)
          (take_all n a.units past) c.loop-unit.invariant.2;
      bare = then_all a.table cause.ShadowedTypedef (λ (u : UnitAnalysis). flat_map (bare_places a ms u) u.bound.bare) a.units n None c.loop-unit.bare past c.loop-unit.invariant.3;
    }
