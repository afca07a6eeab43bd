-- External names of one project that are spelled alike are spelled alike anew.
use Rattle.std.proofs.Common.{◌≡◌, ℕ, zero, suc, Bool, true, false, List, [], ◌∷◌, ◌++◌, Option, None, Some, inl, inr, refl, sym, subst, ◌∙◌}
use Rattle.std.specs.Prelude.{slice_get, filter, cond}
use Rattle.std.specs.List.{flat_map}
use Rattle.std.specs.Str.{bytes_eq}
use Rattle.std.proofs.lemmas.Bool.{cases_Bool}
use Rattle.std.proofs.lemmas.List.{append-nil, append_assoc}
use Rattle.std.proofs.lemmas.Option.{same_Some}
use Rattle.cs_base.proofs.FileMapLemmas.{bytes_eq-equal}
use Rattle.cs_base.proofs.ListLemmas.{spelled_same as alike_from, none_at as not_found}
use Rattle.cs_base.specs.declared.tokens.Link.{Link}
use Rattle.cs_base.specs.Token.{Token}
use Rattle.unit_steps.specs.Below.macro_expand.Renaming.{Renaming, spelled}
use Rattle.analysis.specs.Below.linkage_join.Linkage.{UnitValue as ExternalNames, link_to, first_spelled, names_of, unit_links as links_in, links_after}
use Rattle.edited_unit_laws.specs.Lines.{Each}
use Rattle.edited_unit_laws.specs.Links.{SpelledAsBefore, KeepsNamesAfter}
use Rattle.analysis.proofs.NamingLemmas.{split_at, in_left, in_right}
use Rattle.rename_meaning.proofs.KeptTokenLemmas.{each_of}
use Rattle.rename_meaning.proofs.LinkLemmas.{all_both, all_flat}
use Rattle.edited_unit_laws.proofs.ListLemmas.{In, AllOf, all_at, found}

-- ---- lists

none_in : {X : Type 0} (P : Type 0) (x : X) → In x [] → P
none_in P x i = absurd (let at = i.1 in cc)

all_apart : {X : Type 0} (P : X → Type 0) (xs ys : List X) → AllOf P (xs ++ ys) → AllOf P xs × AllOf P ys
all_apart P [] ys all = (tt, all)
all_apart P (x ∷ xs) ys all = let rest = all_apart P xs ys all.1 in ((all.0, rest.0), rest.1)

flat_at : {X Y : Type 0} (P : Y → Type 0) (f : X → List Y) (xs : List X) → AllOf P (flat_map f xs) → (x : X) (k : ℕ) → slice_get xs k ≡ Some x → AllOf P (f x)
flat_at P f [] all x k at = absurd (cc)
flat_at P f (y ∷ xs) all x zero at =
    let here = all_apart P (f y) (flat_map f xs) all in
    subst (λ z. AllOf P (f z)) (same_Some y x at) here.0
flat_at P f (y ∷ xs) all x (suc k) at = let here = all_apart P (f y) (flat_map f xs) all in flat_at P f xs here.1 x k at

-- bytes are equal exactly where others are
pub alike_both : (x y u v : List ℕ) → (x ≡ y → u ≡ v) → (u ≡ v → x ≡ y) → bytes_eq x y ≡ bytes_eq u v
alike_both x y u v go back = elim (cases_Bool (bytes_eq u v)) [
  | inl same ↦ alike_from x y (back (bytes_eq-equal u v same)) ∙ sym same
  | inr other ↦ elim (cases_Bool (bytes_eq x y)) [
    | inl anew ↦ anew ∙ sym (alike_from u v (go (bytes_eq-equal x y anew)))
    | inr apart ↦ apart ∙ sym other
  ]
]

-- ---- the names of a project

module _ (P : Type 0) (project : List ℕ) (t : Token) where
  last_by : (u : ExternalNames) (b : Bool) → bytes_eq project u.project ≡ b → In t (flat_map (λ (v : ExternalNames). v.names) (cond b (u ∷ []) []))
      → (In t u.names → project ≡ u.project → P) → P
  last_by u true e i own = split_at P t u.names [] i.0 i.1 (λ j. own j (bytes_eq-equal project u.project e)) (none_in P t)
  last_by u false e i own = none_in P t i

  more_by : (v : ExternalNames) (old new : List ExternalNames) (b : Bool) → In t (flat_map (λ (w : ExternalNames). w.names) (cond b (v ∷ new) new))
      → (In t (flat_map (λ (w : ExternalNames). w.names) (cond b (v ∷ old) old)) → P)
      → ((In t (flat_map (λ (w : ExternalNames). w.names) old) → P) → In t (flat_map (λ (w : ExternalNames). w.names) new) → P) → P
  more_by v old new true i l rest =
      split_at P t v.names (flat_map (λ (w : ExternalNames). w.names) new) i.0 i.1
      (λ j. l (in_left t v.names (flat_map (λ (w : ExternalNames). w.names) old) j))
      (rest (λ j. l (in_right t v.names (flat_map (λ (w : ExternalNames). w.names) old) j)))
  more_by v old new false i l rest = rest l i

  -- a name of the project is one of the earlier units, or one of the last
  pub split_names : (earlier : List ExternalNames) (u : ExternalNames) → In t (names_of project (earlier ++ u ∷ []))
      → (In t (names_of project earlier) → P) → (In t u.names → project ≡ u.project → P) → P
  split_names [] u i l own = last_by u (bytes_eq project u.project) refl i own
  split_names (v ∷ earlier) u i l own =
      more_by v (filter (λ (w : ExternalNames). bytes_eq project w.project) earlier) (filter (λ (w : ExternalNames). bytes_eq project w.project) (earlier ++ u ∷ []))
      (bytes_eq project v.project) i l (λ k j. split_names earlier u j k own)

-- the names of each unit have it, so those of a project
module _ (N : Token → Type 0) where
  abbrev pub NamesHave : ExternalNames → Type 0
  NamesHave v = AllOf N v.names

  name_by : (v : ExternalNames) (vs : List ExternalNames) (b : Bool) (t : Token) → In t (flat_map (λ (w : ExternalNames). w.names) (cond b (v ∷ vs) vs)) → NamesHave v
      → (In t (flat_map (λ (w : ExternalNames). w.names) vs) → N t) → N t
  name_by v vs true t i here later = split_at (N t) t v.names (flat_map (λ (w : ExternalNames). w.names) vs) i.0 i.1 (λ j. all_at N v.names here t j) later
  name_by v vs false t i here later = later i

  pub name_has : (project : List ℕ) (units : List ExternalNames) → AllOf NamesHave units → (t : Token) → In t (names_of project units) → N t
  name_has project [] h t i = none_in (N t) t i
  name_has project (v ∷ units) h t i =
      name_by v (filter (λ (w : ExternalNames). bytes_eq project w.project) units) (bytes_eq project v.project) t i h.0 (name_has project units h.1 t)

  -- both tokens of a link have it, and are spelled alike
  pub record IsOfNames (l : Link) : Type 0 where
    pub first : N l.x
    pub second : N l.y
    pub alike : l.x.text ≡ l.y.text

  to_first : (toks : List Token) (t : Token) (o : Option Token) → first_spelled t.text toks ≡ o → N t → ((w : Token) → In w toks → N w) → AllOf IsOfNames (link_to o t)
  to_first toks t None e here all = tt
  to_first toks t (Some w) e here all =
      let f = found (λ (x : Token). bytes_eq t.text x.text) toks w e in
      (record { first = here; second = all w f.0; alike = bytes_eq-equal t.text w.text f.1 }, tt)

  pub links_of_names : (earlier units : List ExternalNames) → AllOf NamesHave earlier → AllOf NamesHave units → AllOf IsOfNames (links_after earlier units)
  links_of_names earlier [] h k = tt
  links_of_names earlier (u ∷ units) h k =
      all_both IsOfNames (links_in earlier u) (links_after (earlier ++ u ∷ []) units)
      (all_flat IsOfNames (λ t. link_to (first_spelled t.text (names_of u.project earlier)) t) u.names
      (λ t i. to_first (names_of u.project earlier) t (first_spelled t.text (names_of u.project earlier)) refl (all_at N u.names k.0 t i)
      (name_has u.project earlier h)))
      (links_of_names (earlier ++ u ∷ []) units (all_both NamesHave earlier (u ∷ []) h (k.0, tt)) k.1)

-- ---- spelled alike anew

module _ (r : Renaming) where
  -- what was spelled alike is so anew
  abbrev pub AlikeAnew : Token → Token → Type 0
  AlikeAnew t w = t.text ≡ w.text → spelled r t ≡ spelled r w

  abbrev pub AreTogether : List Token → Type 0
  AreTogether toks = (t w : Token) → In t toks → In w toks → AlikeAnew t w

  -- so it is with all names of the units of each project
  abbrev pub ProjectsTogether : List ExternalNames → Type 0
  ProjectsTogether units = (project : List ℕ) → AreTogether (names_of project units)

  abbrev pub OwnTogether : ExternalNames → Type 0
  OwnTogether v = AreTogether v.names

  -- both tokens of a link get one spelling
  abbrev pub LinkStays : Link → Type 0
  LinkStays l = spelled r l.x ≡ spelled r l.y

  pub none_together : ProjectsTogether []
  none_together project t w i j = none_in (AlikeAnew t w) t i

  module _ (earlier : List ExternalNames) (u : ExternalNames) (h : ProjectsTogether earlier) (links : AllOf LinkStays (links_in earlier u)) where
    link_by : (t w : Token) → In t u.names → In w (names_of u.project earlier) → t.text ≡ w.text → (o : Option Token)
        → first_spelled t.text (names_of u.project earlier) ≡ o → AllOf LinkStays (link_to o t) → spelled r t ≡ spelled r w
    link_by t w i j same None e stays =
        absurd (not_found (λ (x : Token). bytes_eq t.text x.text) (names_of u.project earlier) w j.0 e j.1 (alike_from t.text w.text same))
    link_by t w i j same (Some first) e stays =
        let f = found (λ (x : Token). bytes_eq t.text x.text) (names_of u.project earlier) first e in
        stays.0 ∙ h u.project first w f.0 j (sym (bytes_eq-equal t.text first.text f.1) ∙ same)

    -- a name of the unit and one of its project before
    pub linked_anew : (t w : Token) → In t u.names → In w (names_of u.project earlier) → AlikeAnew t w
    linked_anew t w i j same =
        link_by t w i j same (first_spelled t.text (names_of u.project earlier)) refl
        (flat_at LinkStays (λ (x : Token). link_to (first_spelled x.text (names_of u.project earlier)) x) u.names links t i.0 i.1)

    one_more : OwnTogether u → ProjectsTogether (earlier ++ u ∷ [])
    one_more own project t w i j =
        split_names (AlikeAnew t w) project t earlier u i
        (λ old. split_names (AlikeAnew t w) project w earlier u j (h project t w old)
        (λ new of same. sym (linked_anew w t new (subst (λ (p : List ℕ). In t (names_of p earlier)) of old) (sym same))))
        (λ new of. split_names (AlikeAnew t w) project w earlier u j
        (λ old same. linked_anew t w new (subst (λ (p : List ℕ). In w (names_of p earlier)) of old) same)
        (λ also of' same. own t w new also same))

  links_here : (earlier : List ExternalNames) (u : ExternalNames) (units : List ExternalNames) → AllOf LinkStays (links_after earlier (u ∷ units))
      → AllOf LinkStays (links_in earlier u) × AllOf LinkStays (links_after (earlier ++ u ∷ []) units)
  links_here earlier u units all = all_apart LinkStays (links_in earlier u) (links_after (earlier ++ u ∷ []) units) all

  -- the names of all units
  pub all_together : (earlier units : List ExternalNames) → ProjectsTogether earlier → AllOf OwnTogether units → AllOf LinkStays (links_after earlier units)
      → ProjectsTogether (earlier ++ units)
  all_together earlier [] h own links = subst ProjectsTogether (sym (append-nil earlier)) h
  all_together earlier (u ∷ units) h own links =
      let parts = links_here earlier u units links in
      subst ProjectsTogether (append_assoc earlier (u ∷ []) units)
      (all_together (earlier ++ u ∷ []) units (one_more earlier u h parts.0 own.0) own.1 parts.1)

  module _ (N : Token → Type 0) (apart : (t w : Token) → N t → N w → spelled r t ≡ spelled r w → t.text ≡ w.text) where
    -- names are spelled alike exactly where they were
    pub names_kept : (earlier units : List ExternalNames) → ProjectsTogether earlier → AllOf OwnTogether units → AllOf LinkStays (links_after earlier units)
        → AllOf (NamesHave N) earlier → AllOf (NamesHave N) units → KeepsNamesAfter r earlier units
    names_kept earlier [] h own links named more = tt
    names_kept earlier (u ∷ units) h own links named more =
        let parts = links_here earlier u units links in (
          each_of (λ (t : Token). Each (SpelledAsBefore r t) (names_of u.project earlier)) u.names (λ t i. each_of (SpelledAsBefore r t) (names_of u.project earlier) (λ w j.
              alike_both (spelled r t) (spelled r w) t.text w.text
              (apart t w (all_at N u.names more.0 t i) (name_has N u.project earlier named w j))
              (linked_anew earlier u h parts.0 t w i j))),
          names_kept (earlier ++ u ∷ []) units (one_more earlier u h parts.0 own.0) own.1 parts.1
              (all_both (NamesHave N) earlier (u ∷ []) named (more.0, tt)) more.1,
        )
