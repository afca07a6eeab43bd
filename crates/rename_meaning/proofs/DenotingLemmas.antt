-- Identifiers of external linkage denote one entity behind a renaming exactly where they did.
use Rattle.std.proofs.Common.{◌≡◌, ℕ, zero, suc, ◌+◌, Bool, true, false, if◌then◌else◌, List, [], ◌∷◌, map, Option, None, Some, ◌⊎◌, inl, inr, refl, sym, ap, subst, ◌∙◌, arith}
use Rattle.std.specs.Prelude.{slice_get, filter, cond}
use Rattle.std.specs.Option.{option_map, option_map_or, option_and_then}
use Rattle.std.specs.Str.{bytes_eq}
use Rattle.std.proofs.lemmas.Bool.{and_from}
use Rattle.std.proofs.lemmas.Option.{none-some, same_Some, slice_get-map}
use Rattle.cs_base.proofs.FileMapLemmas.{bytes_eq-equal, bytes_eq-same}
use Rattle.cs_base.specs.declared.positions.Part.{Part}
use Rattle.cs_base.specs.Token.{Token}
use Rattle.cs_base.specs.Units.{UnitValue}
use Rattle.analysis.specs.Below.linkage_join.Linkage.{UnitValue as ExternalNames, names_of}
use Rattle.unit_steps.specs.Below.macro_expand.Renaming.{Renaming, renamed}
use Rattle.unit_steps.specs.Below.macro_expand.Renaming as macros
use Rattle.analysis.specs.Below.c_types.declared.entity.Linkage.TheVariants.{External}
use Rattle.analysis.specs.Below.c_types.Declarations.{spelling_at, is_linkage}
use Rattle.analysis.specs.Below.scope_bind.declared.bound.Name.{Name}
use Rattle.analysis.specs.Below.scope_bind.Names.{entity_at, linkage_at}
use Rattle.edited_unit_laws.specs.Analyses.{renamed_unit_analysis, renamed_analysis}
use Rattle.analysis.specs.Changed.{ExternalName, external_name, external_if, external_at, is_one_entity, denote_one}
use Rattle.analysis.specs.Analysed.{Analysed}
use Rattle.analysis.specs.Analysis.{UnitAnalysis, AnalysisValue}
use Rattle.analysis.specs.Links.{is_bound_to, is_external_name, external_names_from, names_of_unit, names_of_units}
use Rattle.analysis.proofs.NamingLemmas.{in_filter}
use Rattle.analysis.proofs.FirstLemmas.{bound_same as bound_to}
use Rattle.rename_meaning.specs.Allowed.{IsAllowed}
use Rattle.rename_meaning.specs.KeptTokens.{Spells}
use Rattle.rename_meaning.specs.Renamings.{KeepsUnedited}
use Rattle.edited_unit_laws.proofs.ListLemmas.{In, in_flat}
use Rattle.rename_meaning.proofs.RenamingLemmas.{spell-same}
use Rattle.rename_meaning.proofs.UneditedLemmas.{renamings_keep_unedited}
use Rattle.rename_meaning.specs.KeptUnits.{change}
use Rattle.rename_meaning.specs.KeptLinks.{RenamedNamesDenoteAlike}
use Rattle.rename_meaning.proofs.BoundUnitLemmas.{name_together}
use Rattle.rename_meaning.proofs.ExternalNameLemmas.{alike_both}
use Rattle.rename_meaning.proofs.LinkedNameLemmas.{bound_name}
use Rattle.rename_meaning.proofs.LinksKeptLemmas.{with_first, apart, bound_token, spelled_there, projects_together, units}
use Rattle.rename_meaning.proofs.UnitNameLemmas.{name_entity, name_alike}

-- ---- external names of units and of projects

in_front : (b : Bool) (x t : Token) (xs : List Token) → b ≡ true → x ≡ t → In t (cond b (x ∷ xs) xs)
in_front true x t xs is same = (0, ap (λ (w : Token). Some w) same)
in_front false x t xs is same = absurd (cc)

in_cond : (b : Bool) (x t : Token) (xs : List Token) → In t xs → In t (cond b (x ∷ xs) xs)
in_cond true x t xs i = (suc i.0, i.1)
in_cond false x t xs i = i

-- a token that is the first of an entity of external linkage is among the external names of its unit
in_external : (names : List Name) (k : ℕ) (toks : List Token) (j : ℕ) (t : Token) → slice_get toks j ≡ Some t → is_external_name names (k + j) ≡ true
    → In t (external_names_from names k toks)
unfolding external_names_from
in_external names k [] j t at is = absurd (none-some t at)
in_external names k (x ∷ toks) zero t at is =
    let same : k + 0 ≡ k = omega arith in
    let here : is_external_name names k ≡ true = subst (λ (n : ℕ). is_external_name names n ≡ true) same is in
    in_front (is_external_name names k) x t (external_names_from names (k + 1) toks) here (same_Some x t at)
in_external names k (x ∷ toks) (suc j) t at is =
    let same : k + suc j ≡ k + 1 + j = omega arith in
    in_cond (is_external_name names k) x t (external_names_from names (k + 1) toks)
    (in_external names (k + 1) toks j t at (subst (λ (n : ℕ). is_external_name names n ≡ true) same is))

unit_names_at : (us : List UnitValue) (vs : List UnitAnalysis) (n : ℕ) (unit : UnitValue) (u : UnitAnalysis) → slice_get us n ≡ Some unit → slice_get vs n ≡ Some u
    → slice_get (names_of_units us vs) n ≡ Some (names_of_unit unit u)
unit_names_at [] vs n unit u e f = absurd (none-some unit e)
unit_names_at (w ∷ us) [] n unit u e f = absurd (none-some u f)
unit_names_at (w ∷ us) (v ∷ vs) zero unit u e f =
    ap (λ (x : UnitValue). Some (names_of_unit x v)) (same_Some w unit e) ∙ ap (λ (x : UnitAnalysis). Some (names_of_unit unit x)) (same_Some v u f)
unit_names_at (w ∷ us) (v ∷ vs) (suc n) unit u e f = unit_names_at us vs n unit u e f

-- it is among the names of the project
in_names : (project : List ℕ) (us : List UnitValue) (vs : List UnitAnalysis) (n : ℕ) (unit : UnitValue) (u : UnitAnalysis) (t : Token)
    → slice_get us n ≡ Some unit → slice_get vs n ≡ Some u → bytes_eq project unit.project ≡ true → In t (external_names_from u.bound.names 0 u.text.toks)
    → In t (names_of project (names_of_units us vs))
in_names project us vs n unit u t e f same i =
    let v : ExternalNames = names_of_unit unit u in
    in_flat (λ (w : ExternalNames). w.names) (filter (λ (w : ExternalNames). bytes_eq project w.project) (names_of_units us vs)) v t
    (in_filter (λ (w : ExternalNames). bytes_eq project w.project) v (names_of_units us vs) same (n, unit_names_at us vs n unit u e f)) i

-- ---- what a token denotes

-- token k of the unit, if there is one
abbrev external_in : Option UnitValue → Option UnitAnalysis → ℕ → Option ExternalName
external_in o p k = option_and_then (λ unit. option_and_then (λ u. option_and_then (external_if unit u k) (entity_at u.bound.names k)) p) o

one_of : (o p q s : Option ExternalName) → o ≡ p → q ≡ s → is_one_entity o q ≡ is_one_entity p s
one_of o p q s e f = ap (λ x. is_one_entity x q) e ∙ ap (λ x. is_one_entity p x) f

module _ (a : Analysed) (members : List Part) (name : List ℕ) (h : IsAllowed a members name) where
  abbrev r : Renaming
  r = (change a.value members name).renaming

  abbrev new : AnalysisValue
  new = renamed_analysis (change a.value members name) a.value

  spells : Spells members name r
  spells t each = spell-same members name t.origins t.text each

  -- Token k of unit n is no identifier of external linkage, before and anew.
  record IsNone (n k : ℕ) : Type 0 where
    pub old : external_at a.value n k ≡ None
    pub anew : external_at new n k ≡ None

  -- It is one.
  record IsOne (n k : ℕ) : Type 0 where
    pub unit : UnitValue
    pub u : UnitAnalysis
    pub entity : ℕ
    pub unit_at : slice_get a.value.workspace.units n ≡ Some unit
    pub u_at : slice_get a.value.units n ≡ Some u
    pub bound : entity_at u.bound.names k ≡ Some entity
    pub links : is_linkage (linkage_at u.bound.names entity) External ≡ true
    pub old : external_at a.value n k ≡ Some (external_name unit.project (spelling_at u.text.toks k))
    pub anew : external_at new n k ≡ Some (external_name unit.project (spelling_at (map (renamed r) u.text.toks) k))

  module _ (n k : ℕ) where
    new_in : external_at new n k ≡ external_in (slice_get a.value.workspace.units n) (option_map (renamed_unit_analysis r) (slice_get a.value.units n)) k
    new_in = ap (λ p. external_in (slice_get a.value.workspace.units n) p k) (slice_get-map (renamed_unit_analysis r) a.value.units n)

    both_in : (o : Option UnitValue) (p : Option UnitAnalysis) → slice_get a.value.workspace.units n ≡ o → slice_get a.value.units n ≡ p
        → (external_at a.value n k ≡ external_in o p k) × (external_at new n k ≡ external_in o (option_map (renamed_unit_analysis r) p) k)
    both_in o p e f = (
      ap (λ x. external_in x (slice_get a.value.units n) k) e ∙ ap (λ x. external_in o x k) f,
      new_in ∙ (ap (λ x. external_in x (option_map (renamed_unit_analysis r) (slice_get a.value.units n)) k) e
          ∙ ap (λ x. external_in o (option_map (renamed_unit_analysis r) x) k) f),
    )

    by_linkage : (unit : UnitValue) (u : UnitAnalysis) (entity : ℕ) (b : Bool) → slice_get a.value.workspace.units n ≡ Some unit → slice_get a.value.units n ≡ Some u
        → entity_at u.bound.names k ≡ Some entity → is_linkage (linkage_at u.bound.names entity) External ≡ b → IsNone n k ⊎ IsOne n k
    by_linkage unit u entity false e f bound links =
        let both = both_in (Some unit) (Some u) e f in
        inl (record {
          old = both.0 ∙ (ap (option_and_then (external_if unit u k)) bound
              ∙ ap (λ c. if c then Some (external_name unit.project (spelling_at u.text.toks k)) else None) links);
          anew = both.1 ∙ (ap (option_and_then (external_if unit (renamed_unit_analysis r u) k)) bound
              ∙ ap (λ c. if c then Some (external_name unit.project (spelling_at (map (renamed r) u.text.toks) k)) else None) links);
        })
    by_linkage unit u entity true e f bound links =
        let both = both_in (Some unit) (Some u) e f in
        inr (record {
          unit = unit;
          u = u;
          entity = entity;
          unit_at = e;
          u_at = f;
          bound = bound;
          links = links;
          old = both.0 ∙ (ap (option_and_then (external_if unit u k)) bound
              ∙ ap (λ c. if c then Some (external_name unit.project (spelling_at u.text.toks k)) else None) links);
          anew = both.1 ∙ (ap (option_and_then (external_if unit (renamed_unit_analysis r u) k)) bound
              ∙ ap (λ c. if c then Some (external_name unit.project (spelling_at (map (renamed r) u.text.toks) k)) else None) links);
        })

    by_entity : (unit : UnitValue) (u : UnitAnalysis) (o : Option ℕ) → slice_get a.value.workspace.units n ≡ Some unit → slice_get a.value.units n ≡ Some u
        → entity_at u.bound.names k ≡ o → IsNone n k ⊎ IsOne n k
    by_entity unit u None e f bound =
        let both = both_in (Some unit) (Some u) e f in
        inl (record {
          old = both.0 ∙ ap (option_and_then (external_if unit u k)) bound;
          anew = both.1 ∙ ap (option_and_then (external_if unit (renamed_unit_analysis r u) k)) bound;
        })
    by_entity unit u (Some entity) e f bound = by_linkage unit u entity (is_linkage (linkage_at u.bound.names entity) External) e f bound refl

    by_unit : (o : Option UnitValue) (p : Option UnitAnalysis) → slice_get a.value.workspace.units n ≡ o → slice_get a.value.units n ≡ p → IsNone n k ⊎ IsOne n k
    by_unit None p e f = let both = both_in None p e f in inl (record { old = both.0; anew = both.1 })
    by_unit (Some unit) None e f = let both = both_in (Some unit) None e f in inl (record { old = both.0; anew = both.1 })
    by_unit (Some unit) (Some u) e f = by_entity unit u (entity_at u.bound.names k) e f refl

    -- one of both is so
    none_or_one : IsNone n k ⊎ IsOne n k
    none_or_one = by_unit (slice_get a.value.workspace.units n) (slice_get a.value.units n) refl refl

  -- ---- spellings

  module _ (u : UnitAnalysis) (i : In u a.value.units) where
    keeps : KeepsUnedited r
    keeps = let k = renamings_keep_unedited a members name u.text h in record { untraced = k.untraced; numbers = k.numbers; still = k.still }

    spelled_anew : (k : ℕ) (t : Token) → slice_get u.text.toks k ≡ Some t → spelling_at (map (renamed r) u.text.toks) k ≡ macros.spelled r t
    spelled_anew k t at =
        ap (λ (o : Option Token). option_map_or (λ (w : Token). w.text) o [])
        (slice_get-map (renamed r) u.text.toks k ∙ ap (λ (o : Option Token). option_map (renamed r) o) at)

    -- The token that names the entity of a token is a name of it, and both are spelled alike, before and anew.
    record HasEntity (k e : ℕ) : Type 0 where
      pub own : entity_at u.bound.names e ≡ Some e
      pub old : spelling_at u.text.toks k ≡ spelling_at u.text.toks e
      pub anew : spelling_at (map (renamed r) u.text.toks) k ≡ spelling_at (map (renamed r) u.text.toks) e

    name_has_entity : (n : Name) → In n u.bound.names → HasEntity n.index n.entity
    name_has_entity n j =
        let entity = name_entity a members name h u i n j in
        let same = name_alike a members name h u i n j in
        record {
          own = entity.1;
          old = bytes_eq-equal (spelling_at u.text.toks n.index) (spelling_at u.text.toks n.entity) same;
          anew = bytes_eq-equal (spelling_at (map (renamed r) u.text.toks) n.index) (spelling_at (map (renamed r) u.text.toks) n.entity)
              (name_together a members name r h spells keeps u i n j);
        }

    has_entity : (k e : ℕ) → entity_at u.bound.names k ≡ Some e → HasEntity k e
    has_entity k e bound =
        let n = bound_name u.bound.names k e bound in
        let P : ℕ → Type 0 = λ j. HasEntity j n.0.entity in
        subst (HasEntity k) n.3 (subst P n.2 (name_has_entity n.0 n.1))

  -- The first token of the entity: an external name of the project.
  record HasFirst (project : List ℕ) (n k : ℕ) (o : IsOne n k) : Type 0 where
    pub first : Token
    pub among : In first (names_of project (units a members name r h spells))
    pub old : spelling_at o.u.text.toks k ≡ first.text
    pub anew : spelling_at (map (renamed r) o.u.text.toks) k ≡ macros.spelled r first

  has_first : (project : List ℕ) (n k : ℕ) (o : IsOne n k) → bytes_eq project o.unit.project ≡ true → HasFirst project n k o
  has_first project n k o same =
      let u : UnitAnalysis = o.u in
      let i : In u a.value.units = (n, o.u_at) in
      let e : ℕ = o.entity in
      let has = has_entity u i k e o.bound in
      let b = bound_token a members name r h spells u i e e has.own in
      let t : Token = b.token in
      let external : is_external_name u.bound.names e ≡ true =
      and_from (is_bound_to u.bound.names e e) (is_linkage (linkage_at u.bound.names e) External) (bound_to u.bound.names e e has.own) o.links in
      let from_none : e ≡ 0 + e = omega arith in
      record {
        first = t;
        among = in_names project a.value.workspace.units a.value.units n o.unit u t o.unit_at o.u_at same
            (in_external u.bound.names 0 u.text.toks e t b.there (subst (λ (j : ℕ). is_external_name u.bound.names j ≡ true) from_none external));
        old = has.old ∙ spelled_there a members name r h spells u i e t b.there;
        anew = has.anew ∙ spelled_anew u i e t b.there;
      }

  module _ (m j n k : ℕ) where
    go_apart : (x : IsOne m j) (y : IsOne n k) → spelling_at (map (renamed r) x.u.text.toks) j ≡ spelling_at (map (renamed r) y.u.text.toks) k
        → spelling_at x.u.text.toks j ≡ spelling_at y.u.text.toks k
    go_apart x y e =
        let i : In x.u a.value.units = (m, x.u_at) in
        let l : In y.u a.value.units = (n, y.u_at) in
        let t = bound_token a members name r h spells x.u i j x.entity x.bound in
        let w = bound_token a members name r h spells y.u l k y.entity y.bound in
        let new_same : macros.spelled r t.token ≡ macros.spelled r w.token =
        sym (spelled_anew x.u i j t.token t.there) ∙ (e ∙ spelled_anew y.u l k w.token w.there) in
        spelled_there a members name r h spells x.u i j t.token t.there
        ∙ (apart a members name r h spells t.token w.token t.named w.named new_same ∙ sym (spelled_there a members name r h spells y.u l k w.token w.there))

    go_together : (x : IsOne m j) (y : IsOne n k) → bytes_eq x.unit.project y.unit.project ≡ true → spelling_at x.u.text.toks j ≡ spelling_at y.u.text.toks k
        → spelling_at (map (renamed r) x.u.text.toks) j ≡ spelling_at (map (renamed r) y.u.text.toks) k
    go_together x y same e =
        let p : List ℕ = x.unit.project in
        let f = has_first p m j x (bytes_eq-same p) in
        let g = has_first p n k y same in
        f.anew ∙ (projects_together a members name r h spells p f.first g.first f.among g.among (sym f.old ∙ (e ∙ g.old)) ∙ sym g.anew)

    by_either : (IsNone m j ⊎ IsOne m j) → (IsNone n k ⊎ IsOne n k) → denote_one new m j n k ≡ denote_one a.value m j n k
    by_either (inl x) y =
        ap (λ o. is_one_entity o (external_at new n k)) x.anew ∙ sym (ap (λ o. is_one_entity o (external_at a.value n k)) x.old)
    by_either (inr x) (inl y) =
        one_of (external_at new m j) _ (external_at new n k) _ x.anew y.anew ∙ sym (one_of (external_at a.value m j) _ (external_at a.value n k) _ x.old y.old)
    by_either (inr x) (inr y) =
        one_of (external_at new m j) _ (external_at new n k) _ x.anew y.anew
        ∙ (with_first (bytes_eq x.unit.project y.unit.project)
        (bytes_eq (spelling_at (map (renamed r) x.u.text.toks) j) (spelling_at (map (renamed r) y.u.text.toks) k))
        (bytes_eq (spelling_at x.u.text.toks j) (spelling_at y.u.text.toks k))
        (λ same. alike_both (spelling_at (map (renamed r) x.u.text.toks) j) (spelling_at (map (renamed r) y.u.text.toks) k) (spelling_at x.u.text.toks j) (spelling_at y.u.text.toks k)
        (go_apart x y) (go_together x y same))
        ∙ sym (one_of (external_at a.value m j) _ (external_at a.value n k) _ x.old y.old))

pub renamed_names_denote_alike : RenamedNamesDenoteAlike
renamed_names_denote_alike = λ a members name h m j n k.
    by_either a members name h m j n k (none_or_one a members name h m j) (none_or_one a members name h n k)
