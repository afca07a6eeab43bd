-- The tokens of links are tokens of units, each made of whole tokens of files.
use Rattle.std.proofs.Common.{◌≡◌, ℕ, suc, ◌+◌, ◌&&◌, Bool, true, false, List, [], ◌∷◌, ◌++◌, Option, None, Some, inl, inr, refl}
use Rattle.std.specs.Prelude.{filter, cond}
use Rattle.std.specs.List.{flat_map, list_all}
use Rattle.std.specs.Str.{bytes_eq}
use Rattle.std.proofs.lemmas.Bool.{cases_Bool, and_parts}
use Rattle.std.proofs.lemmas.Option.{same_Some}
use Rattle.cs_base.proofs.FileMapLemmas.{bytes_eq-equal}
use Rattle.cs_base.specs.declared.tokens.Link.{Link}
use Rattle.cs_base.specs.Token.{Token}
use Rattle.cs_base.specs.Units.{UnitValue as Unit_}
use Rattle.line_shape.specs.Signs.{is_name}
use Rattle.analysis.specs.Below.linkage_join.Linkage.{UnitValue, link_to, first_spelled, names_of, unit_links as links_in, links_after, links_of as external_links}
use Rattle.analysis.specs.Below.scope_bind.declared.bound.Name.{Name}
use Rattle.analysis.specs.Below.scope_bind.Names.{entity_at}
use Rattle.expansion_laws.specs.Spelled.{is_spelled}
use Rattle.expansion_laws.proofs.ListLemmas.{AllToks, toks_at, toks_pass}
use Rattle.unit_laws.proofs.NoteLemmas.{LinkHas, in_at}
use Rattle.part_respell.specs.Respelled.{spelled}
use Rattle.analysis.specs.Analysis.{UnitAnalysis, AnalysisValue}
use Rattle.analysis.specs.Links.{is_bound_to, first_occurrence, occurrence_link, occurrence_links, is_external_name, external_names_from, names_of_units, are_alike, unit_links, links_of}
use Rattle.analysis.proofs.NamingLemmas.{filter_in}
use Rattle.edited_unit_laws.specs.Links.{all_links}
use Rattle.unit_laws.proofs.NameLemmas.{kind_words}
use Rattle.rename_meaning.specs.Spellings.{LinkedStayAlike}
use Rattle.edited_unit_laws.proofs.ListLemmas.{In, AllOf, all_of, all_at, found}
use Rattle.rename_meaning.proofs.AlikeLemmas.{linked_alike}
use Rattle.edited_unit_laws.proofs.TracedLemmas.{AreChained, Traced, spelled_fits}
use Rattle.edited_unit_laws.proofs.AnalysedUnitLemmas.{IsUnit, unit_is, unit_spelled, unit_traced}

-- ---- lists

pub all_both : {X : Type 0} (P : X → Type 0) (xs ys : List X) → AllOf P xs → AllOf P ys → AllOf P (xs ++ ys)
all_both P [] ys h k = k
all_both P (x ∷ xs) ys h k = (h.0, all_both P xs ys h.1 k)

pub all_flat : {X Y : Type 0} (P : Y → Type 0) (f : X → List Y) (xs : List X) → ((x : X) → In x xs → AllOf P (f x)) → AllOf P (flat_map f xs)
all_flat P f [] h = tt
all_flat P f (x ∷ xs) h = all_both P (f x) (flat_map f xs) (h x (0, refl)) (all_flat P f xs (λ y i. h y (suc i.0, i.1)))

all_cond : {X : Type 0} (P : X → Type 0) (b : Bool) (x : X) (xs : List X) → P x → AllOf P xs → AllOf P (cond b (x ∷ xs) xs)
all_cond P true x xs h k = (h, k)
all_cond P false x xs h k = k

all_filter : {X : Type 0} (P : X → Type 0) (test : X → Bool) (xs : List X) → AllOf P xs → AllOf P (filter test xs)
all_filter P test [] h = tt
all_filter P test (x ∷ xs) h = all_cond P (test x) x (filter test xs) h.0 (all_filter P test xs h.1)

-- ---- links of a unit, and of external names

-- both tokens of a link
abbrev pub Both : (Token → Type 0) → Link → Type 0
Both P l = P l.x × P l.y

module _ (P : Token → Type 0) where
  to_one : (o : Option Token) (t : Token) → P t → ((first : Token) → o ≡ Some first → P first) → AllOf (Both P) (link_to o t)
  to_one None t here h = tt
  to_one (Some first) t here h = ((here, h first refl), tt)

  first_has : (names : List Name) (entity k : ℕ) (toks : List Token) → AllOf P toks → (t : Token) → first_occurrence names entity k toks ≡ Some t → P t
  unfolding first_occurrence
  first_has names entity k [] h t e = absurd (cc)
  first_has names entity k (x ∷ toks) h t e = elim (cases_Bool (is_bound_to names entity k)) [
    | inl bound ↦ let here : Some x ≡ Some t = rw bound at e in let same : x ≡ t = same_Some x t here in rw (← same) h.0
    | inr other ↦ first_has names entity (k + 1) toks h.1 t (rw other at e)
  ]

  occurrence_has : (names : List Name) (all : List Token) (t : Token) (o : Option ℕ) → AllOf P all → P t → AllOf (Both P) (occurrence_link names all t o)
  occurrence_has names all t None h here = tt
  occurrence_has names all t (Some entity) h here = to_one (first_occurrence names entity 0 all) t here (λ first e. first_has names entity 0 all h first e)

  occurrences_have : (names : List Name) (all : List Token) (k : ℕ) (toks : List Token) → AllOf P all → AllOf P toks → AllOf (Both P) (occurrence_links names all k toks)
  unfolding occurrence_links
  occurrences_have names all k [] h here = tt
  occurrences_have names all k (t ∷ toks) h here =
      all_both (Both P) (occurrence_link names all t (entity_at names k)) (occurrence_links names all (k + 1) toks)
      (occurrence_has names all t (entity_at names k) h here.0) (occurrences_have names all (k + 1) toks h here.1)

  external_have : (names : List Name) (k : ℕ) (toks : List Token) → AllOf P toks → AllOf P (external_names_from names k toks)
  unfolding external_names_from
  external_have names k [] h = tt
  external_have names k (t ∷ toks) h =
      all_cond P (is_external_name names k) t (external_names_from names (k + 1) toks) h.0 (external_have names (k + 1) toks h.1)

  -- the names of units
  abbrev NamesHave : UnitValue → Type 0
  NamesHave v = AllOf P v.names

  units_have : (units : List Unit_) (us : List UnitAnalysis) → AllOf (λ (u : UnitAnalysis). AllOf P u.text.toks) us → AllOf NamesHave (names_of_units units us)
  units_have [] us h = tt
  units_have (unit ∷ units) [] h = tt
  units_have (unit ∷ units) (u ∷ us) h = (external_have u.bound.names 0 u.text.toks h.0, units_have units us h.1)

  names_have : (project : List ℕ) (units : List UnitValue) → AllOf NamesHave units → AllOf P (names_of project units)
  names_have project units h =
      all_flat P (λ (u : UnitValue). u.names) (filter (λ (u : UnitValue). bytes_eq project u.project) units)
      (λ u i. all_at NamesHave (filter (λ (v : UnitValue). bytes_eq project v.project) units) (all_filter NamesHave (λ (v : UnitValue). bytes_eq project v.project) units h) u i)

  spelled_first : (text : List ℕ) (toks : List Token) (first : Token) → AllOf P toks → first_spelled text toks ≡ Some first → P first
  spelled_first text toks first h e = all_at P toks h first (found (λ (t : Token). bytes_eq text t.text) toks first e).0

  links_in_have : (earlier : List UnitValue) (u : UnitValue) → AllOf NamesHave earlier → NamesHave u → AllOf (Both P) (links_in earlier u)
  links_in_have earlier u h here =
      all_flat (Both P) (λ t. link_to (first_spelled t.text (names_of u.project earlier)) t) u.names
      (λ t i. to_one (first_spelled t.text (names_of u.project earlier)) t (all_at P u.names here t i)
      (λ first e. spelled_first t.text (names_of u.project earlier) first (names_have u.project earlier h) e))

  links_after_have : (earlier units : List UnitValue) → AllOf NamesHave earlier → AllOf NamesHave units → AllOf (Both P) (links_after earlier units)
  links_after_have earlier [] h k = tt
  links_after_have earlier (u ∷ units) h k =
      all_both (Both P) (links_in earlier u) (links_after (earlier ++ u ∷ []) units) (links_in_have earlier u h k.0)
      (links_after_have (earlier ++ u ∷ []) units (all_both NamesHave earlier (u ∷ []) h (k.0, tt)) k.1)

  -- each unit has it of its tokens and its own links
  abbrev pub UnitsHave : AnalysisValue → Type 0
  UnitsHave a = (u : UnitAnalysis) → In u a.units → AllOf P u.text.toks × AllOf (Both P) u.text.links

  -- so the links in units have it, and those of external names
  pub all_links_have : (a : AnalysisValue) → UnitsHave a → AllOf (Both P) (all_links a)
  all_links_have a h =
      let own : List Link = flat_map unit_links a.units in
      let outside : List Link = external_links (names_of_units a.workspace.units a.units) in
      let toks : AllOf (λ (u : UnitAnalysis). AllOf P u.text.toks) a.units = all_of (λ (u : UnitAnalysis). AllOf P u.text.toks) a.units (λ u j. (h u j).0) in
      all_both (Both P) own outside
      (all_flat (Both P) unit_links a.units (λ u j.
      let k = h u j in
      all_both (Both P) u.text.links (occurrence_links u.bound.names u.text.toks 0 u.text.toks) k.1 (occurrences_have u.bound.names u.text.toks 0 u.text.toks k.0 k.0)))
      (links_after_have [] (names_of_units a.workspace.units a.units) tt (units_have a.workspace.units a.units toks))

  -- and the links of the analysis, which are of alike identifiers
  pub links_have : (a : AnalysisValue) → UnitsHave a → (l : Link) → In l (links_of a) → Both P l × (are_alike l ≡ true)
  unfolding links_of
  links_have a h l i =
      let f = filter_in are_alike l (all_links a) i in
      (all_at (Both P) (all_links a) (all_links_have a h) l f.0, f.1)

-- ---- what is true of the tokens of units

-- The token is made of whole tokens of files, if it is an identifier.
pub record IsWhole (a : AnalysisValue) (t : Token) : Type 0 where
  pub traced : Traced a t
  pub spelled : is_spelled t ≡ true

pub whole_chained : (a : AnalysisValue) (t : Token) → IsWhole a t → is_name t ≡ true → AreChained a t.origins
whole_chained a t h named =
    let fit = spelled_fits t h.spelled in
    let traced = h.traced in
    traced.chained (kind_words t.kind t.text named fit)

module _ (a : AnalysisValue) (u : UnitAnalysis) (i : In u a.units) (is : IsUnit a.table u) where
  whole_toks : (toks : List Token) → AllToks (Traced a) toks → list_all is_spelled toks ≡ true → AllOf (IsWhole a) toks
  whole_toks toks traced spelled =
      all_of (IsWhole a) toks (λ t j. record {
        traced = toks_at (Traced a) toks traced t j.0 j.1;
        spelled = toks_at (λ v. is_spelled v ≡ true) toks (toks_pass is_spelled toks spelled) t j.0 j.1;
      })

  pub toks_whole : AllOf (IsWhole a) u.text.toks
  toks_whole = whole_toks u.text.toks (unit_traced a u i is).toks (unit_spelled a u i is).toks

  pub pasted_whole : AllOf (IsWhole a) u.text.pasted
  pasted_whole = whole_toks u.text.pasted (unit_traced a u i is).pasted (unit_spelled a u i is).pasted

  pub links_whole : AllOf (Both (IsWhole a)) u.text.links
  links_whole =
      all_of (Both (IsWhole a)) u.text.links (λ l j.
      let traced = in_at (LinkHas (Traced a)) u.text.links (unit_traced a u i is).links l j.0 j.1 in
      let both = (unit_spelled a u i is).links l j in
      (record { traced = traced.0; spelled = both.0 }, record { traced = traced.1; spelled = both.1 }))

pub linked_stay_alike : LinkedStayAlike
linked_stay_alike = λ a members name h l i.
    let each : (u : UnitAnalysis) → In u a.value.units → AllOf (IsWhole a.value) u.text.toks × AllOf (Both (IsWhole a.value)) u.text.links =
    λ u j. (let is = unit_is h.source h.workspace a.value h.accepted u j in (toks_whole a.value u j is, links_whole a.value u j is)) in
    let k = links_have (IsWhole a.value) a.value each l i in
    let both = and_parts (is_name l.x && is_name l.y) (bytes_eq l.x.text l.y.text) k.1 in
    let names = and_parts (is_name l.x) (is_name l.y) both.0 in
    let first = k.0.0 in
    let second = k.0.1 in
    linked_alike a h.own members h.number h.class name l i (bytes_eq-equal l.x.text l.y.text both.1) first.traced second.traced
    (whole_chained a.value l.x first names.0) (whole_chained a.value l.y second names.1)
