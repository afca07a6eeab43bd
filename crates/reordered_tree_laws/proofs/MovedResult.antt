-- What is bound, where what is known at the end goes together.
use Rattle.std.proofs.Common.{ℕ, ◌≡◌, Bool, true, false, cond, if◌then◌else◌, ◌==◌, List, [], ◌∷◌, map, Option, None, Some, refl, sym, ap, ◌∙◌}
use Rattle.std.specs.Prelude.{find, filter}
use Rattle.std.specs.Option.{option_map, option_map_or, option_and_then}
use mathlib.Core.List.{reverse-reverse}
use Rattle.cs_base.specs.Token.{Token}
use Rattle.c_types.specs.declared.entity.EntityKind.TheVariants.{Object}
use Rattle.c_types.specs.declared.entity.Linkage.TheVariants.{Absent}
use Rattle.c_types.specs.Declarations.{Facts}
use Rattle.scope_bind.specs.declared.bound.Name.{Name}
use Rattle.scope_bind.specs.Named.{Declaration, Occurrence}
use Rattle.scope_bind.specs.Bound.{declaration_at, name_of, names_of}
use Rattle.scope_bind.specs.Names.{name_at, entity_at, declares_at, kind_at, linkage_at}
use Rattle.scope_bind.specs.Moved.{moved_occurrence, AreMovedTexts}
use Rattle.reordered_tree_laws.specs.Moving.{AreToldAlike, GoTogether}
use Rattle.scope_bind.proofs.MovedSpaces.{same_number}

-- ---- The first of a list

abbrev first_of : {X : Type 0} → List X → Option X
first_of [] = None
first_of (x ∷ xs) = Some x

find_first : {X : Type 0} (q : X → Bool) (xs : List X) → find q xs ≡ first_of (filter q xs)
find_first q [] = refl
find_first q (x ∷ xs) = step (q x) (find_first q xs)
  where
    step : (c : Bool) → find q xs ≡ first_of (filter q xs) → cond c (Some x) (find q xs) ≡ first_of (cond c (x ∷ filter q xs) (filter q xs))
    step true e = refl
    step false e = e

first_map : {X Y : Type 0} (h : X → Y) (xs : List X) → first_of (map h xs) ≡ option_map h (first_of xs)
first_map h [] = refl
first_map h (x ∷ xs) = refl

find_map : {X Y : Type 0} (h : X → Y) (q : Y → Bool) (p : X → Bool) (xs : List X) → ((x : X) → q (h x) ≡ p x) → find q (map h xs) ≡ option_map h (find p xs)
find_map h q p [] law = refl
find_map h q p (x ∷ xs) law = step (q (h x)) (p x) (law x) (find_map h q p xs law)
  where
    step : (c b : Bool) → c ≡ b → find q (map h xs) ≡ option_map h (find p xs) → cond c (Some (h x)) (find q (map h xs)) ≡ option_map h (cond b (Some x) (find p xs))
    step true true e f = refl
    step false false e f = f
    step true false e f = absurd cc
    step false true e f = absurd cc

-- the name that a token is, by the identifiers that are bound
name_found : (facts : Facts) (k : ℕ) → name_at (names_of facts) k ≡ option_map (name_of facts) (find (λ (o : Occurrence). o.index == k) facts.occurrences)
name_found facts k =
    ap (λ (xs : List Name). find (λ n. n.index == k) xs) (reverse-reverse (map (name_of facts) facts.occurrences))
    ∙ find_map (name_of facts) (λ n. n.index == k) (λ o. o.index == k) facts.occurrences (λ o. refl)

module _ (m : ℕ → ℕ) (old new : List Token) (law : AreMovedTexts m old new) (lo there : ℕ) (f g : Facts) (k : GoTogether m old new lo there f g) where
  noted_first : (i : ℕ) → find (λ (o : Occurrence). o.index == m i) g.occurrences
      ≡ option_map (moved_occurrence m) (find (λ (o : Occurrence). o.index == i) f.occurrences)
  noted_first i =
      find_first (λ (o : Occurrence). o.index == m i) g.occurrences
      ∙ (ap (λ (xs : List Occurrence). first_of xs) (k.noted i)
      ∙ (first_map (moved_occurrence m) (filter (λ (o : Occurrence). o.index == i) f.occurrences)
      ∙ ap (λ r. option_map (moved_occurrence m) r) (sym (find_first (λ (o : Occurrence). o.index == i) f.occurrences))))

  name_moved : (i : ℕ) → name_at (names_of g) (m i)
      ≡ option_map (name_of g) (option_map (moved_occurrence m) (find (λ (o : Occurrence). o.index == i) f.occurrences))
  name_moved i = name_found g (m i) ∙ ap (λ r. option_map (name_of g) r) (noted_first i)

  -- ---- Entities

  entity_by : (r : Option Occurrence) → option_map (λ (n : Name). n.entity) (option_map (name_of g) (option_map (moved_occurrence m) r))
      ≡ option_map m (option_map (λ (n : Name). n.entity) (option_map (name_of f) r))
  entity_by None = refl
  entity_by (Some o) = refl

  pub entity_moved : (i : ℕ) → entity_at (names_of g) (m i) ≡ option_map m (entity_at (names_of f) i)
  entity_moved i =
      ap (λ r. option_map (λ (n : Name). n.entity) r) (name_moved i)
      ∙ (entity_by (find (λ (o : Occurrence). o.index == i) f.occurrences)
      ∙ ap (λ r. option_map m (option_map (λ (n : Name). n.entity) r)) (sym (name_found f i)))

  declares_by : (r : Option Occurrence) → option_map_or (λ (n : Name). n.declares) (option_map (name_of g) (option_map (moved_occurrence m) r)) false
      ≡ option_map_or (λ (n : Name). n.declares) (option_map (name_of f) r) false
  declares_by None = refl
  declares_by (Some o) = refl

  pub declares_moved : (i : ℕ) → declares_at (names_of g) (m i) ≡ declares_at (names_of f) i
  declares_moved i =
      ap (λ r. option_map_or (λ (n : Name). n.declares) r false) (name_moved i)
      ∙ (declares_by (find (λ (o : Occurrence). o.index == i) f.occurrences)
      ∙ ap (λ r. option_map_or (λ (n : Name). n.declares) r false) (sym (name_found f i)))

  -- ---- Kinds and linkages

  told_kind : (x y : Option Declaration) → AreToldAlike x y → option_map_or (λ d. d.kind) y Object ≡ option_map_or (λ d. d.kind) x Object
  told_kind None None h = refl
  told_kind (Some d) (Some e) h = h.0
  told_kind None (Some e) h = absurd h
  told_kind (Some d) None h = absurd h

  told_linkage : (x y : Option Declaration) → AreToldAlike x y → option_map_or (λ d. d.linkage) y Absent ≡ option_map_or (λ d. d.linkage) x Absent
  told_linkage None None h = refl
  told_linkage (Some d) (Some e) h = h.1
  told_linkage None (Some e) h = absurd h
  told_linkage (Some d) None h = absurd h

  kind_same : (e : ℕ) → option_map_or (λ d. d.kind) (declaration_at g (m e)) Object ≡ option_map_or (λ d. d.kind) (declaration_at f e) Object
  kind_same e = told_kind (declaration_at f e) (declaration_at g (m e)) (k.told e)

  linkage_same : (e : ℕ) → option_map_or (λ d. d.linkage) (declaration_at g (m e)) Absent ≡ option_map_or (λ d. d.linkage) (declaration_at f e) Absent
  linkage_same e = told_linkage (declaration_at f e) (declaration_at g (m e)) (k.told e)

  abbrev named : ℕ → Option Name → Option Name
  named e r = option_and_then (λ (n : Name). if n.entity == e then Some n else None) r

  kind_if : (c b : Bool) (x y : Name) → c ≡ b → x.kind ≡ y.kind
      → option_map (λ (n : Name). n.kind) (if c then Some x else None) ≡ option_map (λ (n : Name). n.kind) (if b then Some y else None)
  kind_if true true x y e h = ap (λ z. Some z) h
  kind_if false false x y e h = refl
  kind_if true false x y e h = absurd cc
  kind_if false true x y e h = absurd cc

  linkage_if : (c b : Bool) (x y : Name) → c ≡ b → x.linkage ≡ y.linkage
      → option_map_or (λ (n : Name). n.linkage) (if c then Some x else None) Absent ≡ option_map_or (λ (n : Name). n.linkage) (if b then Some y else None) Absent
  linkage_if true true x y e h = h
  linkage_if false false x y e h = refl
  linkage_if true false x y e h = absurd cc
  linkage_if false true x y e h = absurd cc

  kind_by : (e : ℕ) (r : Option Occurrence)
      → option_map (λ (n : Name). n.kind) (named (m e) (option_map (name_of g) (option_map (moved_occurrence m) r))) ≡ option_map (λ (n : Name). n.kind) (named e (option_map (name_of f) r))
  kind_by e None = refl
  kind_by e (Some o) =
      kind_if (m o.entity == m e) (o.entity == e) (name_of g (moved_occurrence m o)) (name_of f o) (same_number m old new law o.entity e) (kind_same o.entity)

  linkage_by : (e : ℕ) (r : Option Occurrence)
      → option_map_or (λ (n : Name). n.linkage) (named (m e) (option_map (name_of g) (option_map (moved_occurrence m) r))) Absent
      ≡ option_map_or (λ (n : Name). n.linkage) (named e (option_map (name_of f) r)) Absent
  linkage_by e None = refl
  linkage_by e (Some o) =
      linkage_if (m o.entity == m e) (o.entity == e) (name_of g (moved_occurrence m o)) (name_of f o) (same_number m old new law o.entity e) (linkage_same o.entity)

  pub kind_moved : (i : ℕ) → kind_at (names_of g) (m i) ≡ kind_at (names_of f) i
  kind_moved i =
      ap (λ r. option_map (λ (n : Name). n.kind) (named (m i) r)) (name_moved i)
      ∙ (kind_by i (find (λ (o : Occurrence). o.index == i) f.occurrences)
      ∙ ap (λ r. option_map (λ (n : Name). n.kind) (named i r)) (sym (name_found f i)))

  pub linkage_moved : (i : ℕ) → linkage_at (names_of g) (m i) ≡ linkage_at (names_of f) i
  linkage_moved i =
      ap (λ r. option_map_or (λ (n : Name). n.linkage) (named (m i) r) Absent) (name_moved i)
      ∙ (linkage_by i (find (λ (o : Occurrence). o.index == i) f.occurrences)
      ∙ ap (λ r. option_map_or (λ (n : Name). n.linkage) (named i r) Absent) (sym (name_found f i)))
