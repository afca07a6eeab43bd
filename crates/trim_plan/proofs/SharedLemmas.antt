-- What names of external linkage denote, in the units of one project.
use Rattle.std.proofs.Common.{◌≡◌, ℕ, zero, suc, ◌<◌, Bool, true, false, cond, List, [], ◌∷◌, length, Option, None, Some, refl, sym, ap, subst, ◌∙◌, arith}
use Rattle.std.specs.Prelude.{slice_get}
use Rattle.std.specs.Option.{option_map, option_map_or, option_and_then}
use Rattle.std.proofs.lemmas.Option.{none-some, same_Some, slice_get_within}
use Rattle.cs_base.specs.declared.positions.Pos.{Pos}
use Rattle.cs_base.specs.Token.{Token}
use Rattle.cs_base.specs.Units.{UnitValue}
use Rattle.analysis.specs.Analysis.{UnitAnalysis, AnalysisValue}
use Rattle.analysis.specs.Below.c_types.declared.entity.Linkage.{Linkage}
use Rattle.analysis.specs.Below.c_types.declared.entity.Linkage.TheVariants.{External}
use Rattle.analysis.specs.Below.c_types.Declarations.{is_linkage, spelling_at}
use Rattle.analysis.specs.Below.scope_bind.Names.{entity_at, linkage_at}
use Rattle.analysis.specs.Below.ws_file.Workspace.{WorkspaceValue}
use Rattle.analysis.specs.Changed.{ExternalName, external_name, external_if, external_at, is_one_entity, denote_one}
use Rattle.trim_plan.specs.Left.{is_gone, place}
use Rattle.trim_plan.specs.Trimmed.{plain, IsTrimmedUnit, IsLeft, IsLeftEntity}

module _ (gone : ℕ → Bool) (u v : UnitAnalysis) (t : IsTrimmedUnit gone u v) (k : ℕ) (within : k < length u.text.toks) (left : gone k ≡ false) where
  -- the token at its place has the spelling that it had
  spelled : spelling_at v.text.toks (place gone k) ≡ spelling_at u.text.toks k
  spelled = both (slice_get v.text.toks (place gone k)) (slice_get u.text.toks k) (t.toks k within left)
    where
      both : (x y : Option Token) → option_map plain x ≡ option_map plain y → option_map_or (λ (t : Token). t.text) x [] ≡ option_map_or (λ (t : Token). t.text) y []
      both None None e = refl
      both None (Some y) e = absurd (none-some (plain y) e)
      both (Some x) None e = absurd (none-some (plain x) (sym e))
      both (Some x) (Some y) e = ap (λ p. p.1) (same_Some (plain x) (plain y) e)

  external-same : (unit : UnitValue) → option_and_then (external_if unit v (place gone k)) (entity_at v.bound.names (place gone k))
      ≡ option_and_then (external_if unit u k) (entity_at u.bound.names k)
  external-same unit =
      ap (option_and_then (external_if unit v (place gone k))) (t.names k within left).entity ∙ by (entity_at u.bound.names k) refl
    where
      by : (o : Option ℕ) → entity_at u.bound.names k ≡ o
          → option_and_then (external_if unit v (place gone k)) (option_map (place gone) o) ≡ option_and_then (external_if unit u k) o
      by None at = refl
      by (Some e) at =
          let own = (t.names k within left).own e at in
          ap (λ (l : Linkage). cond (is_linkage l External) (Some (external_name unit.project (spelling_at v.text.toks (place gone k)))) None) own.linkage
          ∙ ap (λ (text : List ℕ). cond (is_linkage (linkage_at u.bound.names e) External) (Some (external_name unit.project text)) None) spelled

-- a unit of the second analysis for one of the first
unit_there : (us vs : List UnitAnalysis) (n : ℕ) (u : UnitAnalysis) → length vs ≡ length us → slice_get us n ≡ Some u → (v : UnitAnalysis) × (slice_get vs n ≡ Some v)
unit_there us vs n u many at = by (slice_get vs n) refl
  where
    there : (xs : List UnitAnalysis) (k : ℕ) → k < length xs → slice_get xs k ≡ None → ⊥
    there [] k less none = absurd (omega (arith, less))
    there (x ∷ xs) zero less none = none-some x (sym none)
    there (x ∷ xs) (suc k) less none = there xs k (omega (arith, less)) none

    by : (o : Option UnitAnalysis) → slice_get vs n ≡ o → (v : UnitAnalysis) × (slice_get vs n ≡ Some v)
    by None is =
        let within : n < length us = slice_get_within us n u at in
        absurd (there vs n (omega (arith, many, within)) is)
    by (Some v) is = (v, is)

-- Two identifiers that are left denote one entity exactly where they did.
pub denote_alike : (lines : List Pos) (a b : AnalysisValue) → b.workspace ≡ a.workspace → length b.units ≡ length a.units
    → ((n : ℕ) (u v : UnitAnalysis) → slice_get a.units n ≡ Some u → slice_get b.units n ≡ Some v → IsTrimmedUnit (is_gone lines u.text) u v)
    → (m j i n k h : ℕ) → IsLeft lines a m j i → IsLeft lines a n k h → denote_one b m i n h ≡ denote_one a m j n k
denote_alike lines a b same many units m j i n k h x y =
    ap (λ (o : Option ExternalName). is_one_entity o (external_at b n h)) (external m j i x) ∙ ap (is_one_entity (external_at a m j)) (external n k h y)
  where
    external : (n k h : ℕ) → IsLeft lines a n k h → external_at b n h ≡ external_at a n k
    external n k h x =
        let v = unit_there a.units b.units n x.unit many x.at in
        let t = units n x.unit v.0 x.at v.1 in
        let gone = is_gone lines x.unit.text in
        ap (λ (w : WorkspaceValue). option_and_then (λ (unit : UnitValue). option_and_then (λ (u : UnitAnalysis). option_and_then (external_if unit u h) (entity_at u.bound.names h)) (slice_get b.units n)) (slice_get w.units n)) same
        ∙ at_unit (slice_get a.workspace.units n) v.0 v.1 t
      where
        at_unit : (o : Option UnitValue) (v : UnitAnalysis) → slice_get b.units n ≡ Some v → IsTrimmedUnit (is_gone lines x.unit.text) x.unit v
            → option_and_then (λ (unit : UnitValue). option_and_then (λ (u : UnitAnalysis). option_and_then (external_if unit u h) (entity_at u.bound.names h)) (slice_get b.units n)) o
            ≡ option_and_then (λ (unit : UnitValue). option_and_then (λ (u : UnitAnalysis). option_and_then (external_if unit u k) (entity_at u.bound.names k)) (slice_get a.units n)) o
        at_unit None v there t = refl
        at_unit (Some unit) v there t =
            let gone = is_gone lines x.unit.text in
            let f = λ (j : ℕ) (u : UnitAnalysis). option_and_then (external_if unit u j) (entity_at u.bound.names j) in
            ap (option_and_then (f h)) there
            ∙ ap (λ (j : ℕ). option_and_then (external_if unit v j) (entity_at v.bound.names j)) x.place
            ∙ external-same gone x.unit v t k x.within x.left unit
            ∙ sym (ap (option_and_then (f k)) x.at)
