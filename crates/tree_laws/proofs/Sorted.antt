-- Each declaration is of a kind for its name space, and its entity is declared in that name space; a token declares one kind.
use Rattle.std.proofs.Common.{ℕ, ◌≡◌, true, false, List, [], ◌∷◌, ◌++◌, Option, inl, inr, refl, sym, ap, subst, ◌∙◌}
use Rattle.std.proofs.lemmas.Bool.{false≢true}
use Rattle.scope_bind.specs.Named.{Fault, Declaration, Occurrence}
use Rattle.tree_laws.proofs.Lookups.{In}
use Rattle.tree_laws.proofs.Unnamed.{is_unnamed}
use Rattle.tree_laws.proofs.Moves.{sort_of, space_sort, name_noted, IsFound, IsNew, IsCopy, StaysTrue}

-- no token is noted twice
abbrev pub NoTwice : List Occurrence → Type 0
NoTwice [] = Unit {0}
NoTwice (o ∷ os) = ((p : Occurrence) → In p os → p.index ≡ o.index → ⊥) × NoTwice os

pub no_twice_behind : (more os : List Occurrence) → NoTwice (more ++ os) → NoTwice os
no_twice_behind [] os t = t
no_twice_behind (o ∷ more) os t = no_twice_behind more os t.1

pub record IsSorted (U : ℕ → Type 0) (ds : List Declaration) (os : List Occurrence) : Type 0 where
  pub kinds : (d : Declaration) → In d ds → is_unnamed d.space ≡ false → space_sort d.space ≡ sort_of d.kind
  pub entities : (d : Declaration) → In d ds → is_unnamed d.space ≡ false → (x : Declaration) × IsFound (space_sort d.space) ds x × (x.name_at ≡ d.entity)
  pub alone : (d e : Declaration) → In d ds → In e ds → is_unnamed d.space ≡ false → is_unnamed e.space ≡ false → d.name_at ≡ e.name_at → d.kind ≡ e.kind
  pub noted : (d : Declaration) → In d ds → is_unnamed d.space ≡ false → In (name_noted d.name_at d.entity true) os
  pub unnamed : (d : Declaration) → In d ds → is_unnamed d.space ≡ true → U d.name_at

module _ (U : ℕ → Type 0) where
  abbrev pub Sorted : List Declaration → List Occurrence → Option Fault → Type 0
  Sorted ds os o = NoTwice os → IsSorted U ds os

  -- an element of a list with one more
  first_or : (Q : Declaration → Type 0) (d : Declaration) (ds : List Declaration) → Q d → ((x : Declaration) → In x ds → Q x) → (x : Declaration) → In x (d ∷ ds) → Q x
  first_or Q d ds h k x (inl same) = subst Q same h
  first_or Q d ds h k x (inr w) = k x w

  found_more : (n : ℕ) (d x : Declaration) (ds : List Declaration) → IsFound n ds x → IsFound n (d ∷ ds) x
  found_more n d x ds f = record { there = inr f.there; named = f.named; sort = f.sort }

  abbrev HasEntity : List Declaration → Declaration → Type 0
  HasEntity ds d = (x : Declaration) × IsFound (space_sort d.space) ds x × (x.name_at ≡ d.entity)

  entity_more : (d y : Declaration) (ds : List Declaration) → HasEntity ds y → HasEntity (d ∷ ds) y
  entity_more d y ds h = (h.0, found_more (space_sort y.space) d h.0 ds h.1, h.2)

  -- what is so of two elements of a list with one more
  pair_or : (Q : Declaration → Declaration → Type 0) (d : Declaration) (ds : List Declaration) → Q d d → ((x : Declaration) → In x ds → Q d x × Q x d)
      → ((x y : Declaration) → In x ds → In y ds → Q x y) → (x y : Declaration) → In x (d ∷ ds) → In y (d ∷ ds) → Q x y
  pair_or Q d ds h k m x y (inl s) (inl t) = subst (λ z. Q z y) s (subst (λ z. Q d z) t h)
  pair_or Q d ds h k m x y (inl s) (inr v) = subst (λ z. Q z y) s (k y v).0
  pair_or Q d ds h k m x y (inr w) (inl t) = subst (λ z. Q x z) t (k x w).1
  pair_or Q d ds h k m x y (inr w) (inr v) = m x y w v

  abbrev AreOne : Declaration → Declaration → Type 0
  AreOne d e = is_unnamed d.space ≡ false → is_unnamed e.space ≡ false → d.name_at ≡ e.name_at → d.kind ≡ e.kind

  new_entity : (ds : List Declaration) (os : List Occurrence) (d : Declaration) → IsNew ds d → IsSorted U ds os → HasEntity (d ∷ ds) d
  new_entity ds os d n s = elim n.entity [
    | inl own ↦ (d, record { there = inl refl; named = n.named; sort = refl }, sym own)
    | inr of_ ↦
        let y = s.entities of_.0 of_.1.there of_.1.named in
        (y.0, record { there = inr y.1.there; named = y.1.named; sort = y.1.sort ∙ of_.1.sort }, y.2 ∙ of_.2)
  ]

  declare_sorted : (ds : List Declaration) (os : List Occurrence) (o : Option Fault) (d : Declaration) → IsNew ds d → Sorted ds os o
      → Sorted (d ∷ ds) (name_noted d.name_at d.entity true ∷ os) o
  declare_sorted ds os o d n h t =
      let s : IsSorted U ds os = h t.1 in
      let apart : (x : Declaration) → In x ds → is_unnamed x.space ≡ false → x.name_at ≡ d.name_at → ⊥ = λ x w u e. t.0 (name_noted x.name_at x.entity true) (s.noted x w u) e in
      record {
        kinds = first_or (λ x. is_unnamed x.space ≡ false → space_sort x.space ≡ sort_of x.kind) d ds (λ u. n.kind) s.kinds;
        entities = first_or (λ x. is_unnamed x.space ≡ false → HasEntity (d ∷ ds) x) d ds (λ u. new_entity ds os d n s) (λ x w u. entity_more d x ds (s.entities x w u));
        alone = pair_or AreOne d ds (λ u v e. refl) (λ x w. (λ u v e. absurd (apart x w v (sym e)), λ u v e. absurd (apart x w u e))) s.alone;
        noted = first_or (λ x. is_unnamed x.space ≡ false → In (name_noted x.name_at x.entity true) (name_noted d.name_at d.entity true ∷ os)) d ds
            (λ u. inl refl) (λ x w u. inr (s.noted x w u));
        unnamed = first_or (λ x. is_unnamed x.space ≡ true → U x.name_at) d ds (λ u. absurd (false≢true (sym n.named ∙ u))) s.unnamed;
      }

  again_sorted : (ds : List Declaration) (os : List Occurrence) (o : Option Fault) (d e : Declaration) → In d ds → IsCopy d e → Sorted ds os o → Sorted (e ∷ ds) os o
  again_sorted ds os o d e w c h t =
      let s : IsSorted U ds os = h t in
      let x = s.entities d w c.first in
      record {
        kinds = first_or (λ x. is_unnamed x.space ≡ false → space_sort x.space ≡ sort_of x.kind) e ds
            (λ u. c.sort ∙ (s.kinds d w c.first ∙ sym (ap sort_of c.kind))) s.kinds;
        entities = first_or (λ y. is_unnamed y.space ≡ false → HasEntity (e ∷ ds) y) e ds
            (λ u. (x.0, record { there = inr x.1.there; named = x.1.named; sort = x.1.sort ∙ sym c.sort }, x.2 ∙ sym c.entity))
            (λ y v u. entity_more e y ds (s.entities y v u));
        alone = pair_or AreOne e ds (λ u v q. refl)
            (λ y v. (λ u n q. c.kind ∙ s.alone d y w v c.first n (sym c.name ∙ q), λ n u q. s.alone y d v w n c.first (q ∙ c.name) ∙ sym c.kind)) s.alone;
        noted = first_or (λ y. is_unnamed y.space ≡ false → In (name_noted y.name_at y.entity true) os) e ds
            (λ u. subst (λ i. In (name_noted i e.entity true) os) (sym c.name) (subst (λ i. In (name_noted d.name_at i true) os) (sym c.entity) (s.noted d w c.first))) s.noted;
        unnamed = first_or (λ y. is_unnamed y.space ≡ true → U y.name_at) e ds (λ u. absurd (false≢true (sym c.named ∙ u))) s.unnamed;
      }

  unnamed_sorted : (ds : List Declaration) (os : List Occurrence) (o : Option Fault) (d : Declaration) → is_unnamed d.space ≡ true → U d.name_at → Sorted ds os o → Sorted (d ∷ ds) os o
  unnamed_sorted ds os o d is place h t =
      let s : IsSorted U ds os = h t in
      let not_named : is_unnamed d.space ≡ false → ⊥ = λ u. false≢true (sym u ∙ is) in
      record {
        kinds = first_or (λ x. is_unnamed x.space ≡ false → space_sort x.space ≡ sort_of x.kind) d ds (λ u. absurd (not_named u)) s.kinds;
        entities = first_or (λ y. is_unnamed y.space ≡ false → HasEntity (d ∷ ds) y) d ds (λ u. absurd (not_named u)) (λ y v u. entity_more d y ds (s.entities y v u));
        alone = pair_or AreOne d ds (λ u v q. refl) (λ y v. (λ u n q. absurd (not_named u), λ n u q. absurd (not_named u))) s.alone;
        noted = first_or (λ y. is_unnamed y.space ≡ false → In (name_noted y.name_at y.entity true) os) d ds (λ u. absurd (not_named u)) s.noted;
        unnamed = first_or (λ y. is_unnamed y.space ≡ true → U y.name_at) d ds (λ u. place) s.unnamed;
      }

  pub sorted_law : StaysTrue U Sorted
  sorted_law = record {
    fault = λ ds os o x h. h;
    use' = λ ds os o i e h t. let s = h t.1 in record { kinds = s.kinds; entities = s.entities; alone = s.alone; noted = λ d w u. inr (s.noted d w u); unnamed = s.unnamed };
    declare = declare_sorted;
    again = again_sorted;
    unnamed = unnamed_sorted;
  }
