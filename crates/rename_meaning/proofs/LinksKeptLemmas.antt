-- A renaming against which nothing stands keeps the links of an analysis.
use Rattle.std.proofs.Common.{◌≡◌, ℕ, zero, suc, ◌+◌, ◌&&◌, Bool, true, false, List, [], ◌∷◌, length, Option, Some, refl, sym, ap, subst, ◌∙◌, arith}
use Rattle.std.specs.Prelude.{slice_get, cond}
use Rattle.std.specs.List.{flat_map}
use Rattle.std.specs.Option.{option_map_or}
use Rattle.std.specs.Str.{bytes_eq}
use Rattle.std.proofs.lemmas.Bool.{and_parts, and_from}
use Rattle.std.proofs.lemmas.Option.{same_Some}
use Rattle.cs_base.specs.declared.positions.Part.{Part}
use Rattle.cs_base.specs.declared.tokens.Link.{Link}
use Rattle.cs_base.specs.Token.{Token}
use Rattle.cs_base.specs.Units.{UnitValue}
use Rattle.cs_base.proofs.ListLemmas.{spelled_same as alike_from}
use Rattle.line_shape.specs.Signs.{is_name}
use Rattle.analysis.specs.Below.linkage_join.Linkage.{UnitValue as ExternalNames, links_of as external_links}
use Rattle.unit_steps.specs.Below.macro_expand.Renaming.{Renaming}
use Rattle.unit_steps.specs.Below.macro_expand.Renaming as macros
use Rattle.analysis.specs.Below.c_types.declared.entity.Linkage.{Linkage}
use Rattle.analysis.specs.Below.c_types.declared.entity.Linkage.TheVariants.{External, Internal, Absent}
use Rattle.analysis.specs.Below.c_types.Declarations.{spelling_at, alike, has_linkage, is_linkage}
use Rattle.analysis.specs.Below.scope_bind.declared.bound.Name.{Name}
use Rattle.analysis.specs.Below.scope_bind.Names.{entity_at, linkage_at}
use Rattle.edited_unit_laws.specs.Links.{all_links, StaysAlike}
use Rattle.edited_unit_laws.proofs.LinksLemmas.{links_are_renamed}
use Rattle.expansion_laws.proofs.ListLemmas.{toks_at}
use Rattle.analysis.proofs.NamingLemmas.{in_filter, in_right}
use Rattle.analysis.specs.Analysed.{Analysed}
use Rattle.analysis.specs.Analysis.{UnitAnalysis}
use Rattle.analysis.specs.Links.{is_bound_to, is_external_name, external_names_from, names_of_units, are_alike, unit_links, links_of}
use Rattle.rename_meaning.specs.Allowed.{IsAllowed}
use Rattle.rename_meaning.specs.KeptTokens.{Spells}
use Rattle.unit_laws.proofs.NoteLemmas.{LinkHas, in_at}
use Rattle.rename_meaning.proofs.KeptTokenLemmas.{each_of}
use Rattle.rename_meaning.proofs.LinkLemmas.{IsWhole, Both, UnitsHave, all_links_have, toks_whole, links_whole, linked_stay_alike}
use Rattle.edited_unit_laws.proofs.ListLemmas.{In, AllOf, all_of, all_at}
use Rattle.rename_meaning.proofs.OccurLemmas.{Occurs, unit_occurs}
use Rattle.rename_meaning.proofs.OccurringLemmas.{occurring_are_kept}
use Rattle.rename_meaning.proofs.RenamingLemmas.{spell-same}
use Rattle.edited_unit_laws.proofs.AnalysedUnitLemmas.{unit_is}
use Rattle.rename_meaning.specs.KeptUnits.{change}
use Rattle.rename_meaning.specs.KeptLinks.{LinksAreKept, LinksAreRenamedWhereAllowed}
use Rattle.rename_meaning.proofs.ExternalNameLemmas.{alike_both, NamesHave, IsOfNames, links_of_names, AreTogether, ProjectsTogether, OwnTogether, LinkStays, none_together, all_together, names_kept}
use Rattle.rename_meaning.proofs.LinkedNameLemmas.{bound_name, entity_of}
use Rattle.rename_meaning.proofs.UnitNameLemmas.{name_token, name_linked}

pub with_first : (b x y : Bool) → (b ≡ true → x ≡ y) → (b && x) ≡ (b && y)
with_first true x y h = h refl
with_first false x y h = refl

external_has : (l : Linkage) → is_linkage l External ≡ true → has_linkage l ≡ true
external_has External e = refl
external_has Internal e = absurd (cc)
external_has Absent e = absurd (cc)

-- ---- the external names of a unit

-- an external name is one of the tokens
record IsExternal (names : List Name) (k : ℕ) (toks : List Token) (t : Token) : Type 0 where
  pub place : ℕ
  pub there : slice_get toks place ≡ Some t
  pub external : is_external_name names (k + place) ≡ true

external_by : (names : List Name) (k : ℕ) (x : Token) (toks : List Token) (t : Token) (b : Bool) → is_external_name names k ≡ b → (n : ℕ)
    → slice_get (cond b (x ∷ external_names_from names (k + 1) toks) (external_names_from names (k + 1) toks)) n ≡ Some t
    → (In t (external_names_from names (k + 1) toks) → IsExternal names (k + 1) toks t) → IsExternal names k (x ∷ toks) t
external_by names k x toks t true is zero at later = record {
  place = 0;
  there = at;
  external = (let same : k ≡ k + 0 = omega arith in subst (λ (n : ℕ). is_external_name names n ≡ true) same is);
}
external_by names k x toks t true is (suc n) at later =
    let l = later (n, at) in
    let same : k + 1 + l.place ≡ k + suc l.place = omega arith in
    record { place = suc l.place; there = l.there; external = subst (λ (m : ℕ). is_external_name names m ≡ true) same l.external }
external_by names k x toks t false is n at later =
    let l = later (n, at) in
    let same : k + 1 + l.place ≡ k + suc l.place = omega arith in
    record { place = suc l.place; there = l.there; external = subst (λ (m : ℕ). is_external_name names m ≡ true) same l.external }

external_of : (names : List Name) (k : ℕ) (toks : List Token) (t : Token) → In t (external_names_from names k toks) → IsExternal names k toks t
unfolding external_names_from
external_of names k [] t i = absurd (let at = i.1 in cc)
external_of names k (x ∷ toks) t i =
    external_by names k x toks t (is_external_name names k) refl i.0 i.1 (external_of names (k + 1) toks t)

-- it stands at this place in the unit
record StandsAt (u : UnitAnalysis) (t : Token) : Type 0 where
  pub place : ℕ
  pub there : slice_get u.text.toks place ≡ Some t
  pub entity : entity_at u.bound.names place ≡ Some place
  pub links : has_linkage (linkage_at u.bound.names place) ≡ true

stands_at : (u : UnitAnalysis) (t : Token) → In t (external_names_from u.bound.names 0 u.text.toks) → StandsAt u t
stands_at u t i =
    let e = external_of u.bound.names 0 u.text.toks t i in
    let k : ℕ = e.place in
    let same : 0 + k ≡ k = omega arith in
    let both = and_parts (is_bound_to u.bound.names k k) (is_linkage (linkage_at u.bound.names k) External) (subst (λ (n : ℕ). is_external_name u.bound.names n ≡ true) same e.external) in
    record {
      place = k;
      there = e.there;
      entity = entity_of u.bound.names k k both.0;
      links = external_has (linkage_at u.bound.names k) both.1;
    }

-- the names of each unit of a list
of_units : (Q : List Token → Type 0) (units : List UnitValue) (us : List UnitAnalysis) → ((u : UnitAnalysis) → In u us → Q (external_names_from u.bound.names 0 u.text.toks))
    → AllOf (λ (v : ExternalNames). Q v.names) (names_of_units units us)
of_units Q [] us h = tt
of_units Q (unit ∷ units) [] h = tt
of_units Q (unit ∷ units) (u ∷ us) h = (h u (0, refl), of_units Q units us (λ v i. h v (suc i.0, i.1)))

-- ---- the analysis

module _ (a : Analysed) (members : List Part) (name : List ℕ) (r : Renaming) (h : IsAllowed a members name) (spells : Spells members name r) where
  abbrev pub units : List ExternalNames
  units = names_of_units a.value.workspace.units a.value.units

  -- the token occurs, and has an origin for each character
  pub record IsTold (t : Token) : Type 0 where
    pub occurring : Occurs a.value t
    pub each : length t.origins ≡ length t.text

  abbrev pub Named : Token → Type 0
  Named t = IsTold t × (is_name t ≡ true)

  module _ (u : UnitAnalysis) (i : In u a.value.units) where
    told_tok : (t : Token) → In t u.text.toks → IsTold t
    told_tok t j =
        let is = unit_is h.source h.workspace a.value h.accepted u i in
        let has = unit_occurs a.value u i is in
        let w = all_at (IsWhole a.value) u.text.toks (toks_whole a.value u i is) t j in
        let traced = w.traced in
        record { occurring = toks_at (Occurs a.value) u.text.toks has.toks t j.0 j.1; each = traced.each }

    told_link : (l : Link) → In l u.text.links → Both IsTold l
    told_link l j =
        let is = unit_is h.source h.workspace a.value h.accepted u i in
        let has = unit_occurs a.value u i is in
        let both = in_at (LinkHas (Occurs a.value)) u.text.links has.links l j.0 j.1 in
        let w = all_at (Both (IsWhole a.value)) u.text.links (links_whole a.value u i is) l j in
        let first = w.0 in
        let second = w.1 in
        let x = first.traced in
        let y = second.traced in
        (record { occurring = both.0; each = x.each }, record { occurring = both.1; each = y.each })

    -- a token that is bound is an identifier of the unit
    pub record IsToken (k : ℕ) : Type 0 where
      pub token : Token
      pub there : slice_get u.text.toks k ≡ Some token
      pub named : Named token

    pub bound_token : (k e : ℕ) → entity_at u.bound.names k ≡ Some e → IsToken k
    bound_token k e bound =
        let n = bound_name u.bound.names k e bound in
        let token = name_token a members name h u i n.0 n.1 in
        let there : slice_get u.text.toks k ≡ Some token.0 = ap (slice_get u.text.toks) (sym n.2) ∙ token.1 in
        record { token = token.0; there = there; named = (told_tok token.0 (k, there), token.2) }

    external_told : (t : Token) → In t (external_names_from u.bound.names 0 u.text.toks) → Named t
    external_told t j =
        let s = stands_at u t j in
        let b = bound_token s.place s.place s.entity in
        subst Named (same_Some b.token t (sym b.there ∙ s.there)) b.named

    pub spelled_there : (k : ℕ) (t : Token) → slice_get u.text.toks k ≡ Some t → spelling_at u.text.toks k ≡ t.text
    spelled_there k t at = ap (λ (o : Option Token). option_map_or (λ (w : Token). w.text) o []) at

    -- two external names of one spelling are one token
    own_together : AreTogether r (external_names_from u.bound.names 0 u.text.toks)
    own_together t w j k same =
        let x = stands_at u t j in
        let y = stands_at u w k in
        let texts : alike u.text.toks x.place y.place ≡ true =
        alike_from (spelling_at u.text.toks x.place) (spelling_at u.text.toks y.place)
        (spelled_there x.place t x.there ∙ (same ∙ sym (spelled_there y.place w y.there))) in
        let place : x.place ≡ y.place =
        name_linked a members name h u i x.place y.place x.links y.links texts in
        ap (macros.spelled r) (same_Some t w (sym x.there ∙ (ap (slice_get u.text.toks) place ∙ y.there)))

  -- ---- links

  told : UnitsHave IsTold a.value
  told u i = (all_of IsTold u.text.toks (told_tok u i), all_of (Both IsTold) u.text.links (told_link u i))

  in_links : (l : Link) → In l (all_links a.value) → are_alike l ≡ true → In l (links_of a.value)
  unfolding links_of
  in_links l i are = in_filter are_alike l (all_links a.value) are i

  same_spelled : (l : Link) → In l (links_of a.value) → Both IsTold l → macros.spelled r l.x ≡ macros.spelled r l.y
  same_spelled l i both =
      let x = both.0 in
      let y = both.1 in
      spells l.x x.each ∙ (linked_stay_alike a members name h l i ∙ sym (spells l.y y.each))

  pub apart : (t w : Token) → Named t → Named w → macros.spelled r t ≡ macros.spelled r w → t.text ≡ w.text
  apart t w x y same =
      let kept = occurring_are_kept a members name r h spells in
      let one = x.0 in
      let other = y.0 in
      kept.apart t w one.occurring other.occurring x.1 y.1 same

  stays : (l : Link) → In l (all_links a.value) → Both IsTold l → StaysAlike r l
  stays l i both =
      with_first (is_name l.x && is_name l.y) (bytes_eq (macros.spelled r l.x) (macros.spelled r l.y)) (bytes_eq l.x.text l.y.text) (λ named.
      let names = and_parts (is_name l.x) (is_name l.y) named in
      alike_both (macros.spelled r l.x) (macros.spelled r l.y) l.x.text l.y.text
      (apart l.x l.y (both.0, names.0) (both.1, names.1))
      (λ same. same_spelled l (in_links l i (and_from (is_name l.x && is_name l.y) (bytes_eq l.x.text l.y.text) named (alike_from l.x.text l.y.text same))) both))

  each_stays : (l : Link) → In l (all_links a.value) → StaysAlike r l
  each_stays l i = stays l i (all_at (Both IsTold) (all_links a.value) (all_links_have IsTold a.value told) l i)

  -- ---- external names

  names_told : AllOf (NamesHave Named) units
  names_told =
      of_units (AllOf Named) a.value.workspace.units a.value.units (λ u i. all_of Named (external_names_from u.bound.names 0 u.text.toks) (external_told u i))

  units_together : AllOf (OwnTogether r) units
  units_together = of_units (AreTogether r) a.value.workspace.units a.value.units own_together

  external_stays : (l : Link) → In l (external_links units) → IsOfNames Named l → LinkStays r l
  external_stays l i of =
      let x = of.first in
      let y = of.second in
      same_spelled l
      (in_links l (in_right l (flat_map unit_links a.value.units) (external_links units) i)
      (and_from (is_name l.x && is_name l.y) (bytes_eq l.x.text l.y.text) (and_from (is_name l.x) (is_name l.y) x.1 y.1) (alike_from l.x.text l.y.text of.alike)))
      (x.0, y.0)

  externals_stay : AllOf (LinkStays r) (external_links units)
  externals_stay =
      all_of (LinkStays r) (external_links units) (λ l i.
      external_stays l i (all_at (IsOfNames Named) (external_links units) (links_of_names Named [] units tt names_told) l i))

  -- names of one project that are spelled alike are so anew
  pub projects_together : ProjectsTogether r units
  projects_together = all_together r [] units (none_together r) units_together externals_stay

pub links_are_kept : LinksAreKept
links_are_kept = λ a members name r h spells. record {
  names = names_kept r (Named a members name r h spells) (apart a members name r h spells) [] (units a members name r h spells) (none_together r)
      (units_together a members name r h spells) (externals_stay a members name r h spells) tt (names_told a members name r h spells);
  links = each_of (StaysAlike r) (all_links a.value) (each_stays a members name r h spells);
}

pub links_are_renamed_where_allowed : LinksAreRenamedWhereAllowed
links_are_renamed_where_allowed = λ a members name h.
    links_are_renamed (change a.value members name) a.value
    (links_are_kept a members name (change a.value members name).renaming h (λ t each. spell-same members name t.origins t.text each))
