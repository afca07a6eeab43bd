-- No token is noted twice in a text that binds; and the place of an anonymous member is never noted.
use Rattle.std.proofs.Common.{ℕ, ◌+◌, ◌<◌, ◌≤◌, ◌≡◌, ◌≢◌, ◌==◌, Bool, true, false, ◌&&◌, ◌||◌, not, List, [], ◌∷◌, ◌++◌, length, map, reverse, inl, inr, refl, sym, ap, subst, ◌∙◌, arith}
use mathlib.Core.List.{reverse-cons}
use Rattle.std.specs.Prelude.{AllPairs, get_or}
use Rattle.std.proofs.lemmas.Bool.{false≢true, and_parts, and_from, ne_eqb}
use Rattle.std.proofs.lemmas.List.{get_or_append_left}
use Rattle.std.proofs.Math.Seq.{get_or-append_seam}
use Rattle.cs_base.specs.Token.{Token}
use Rattle.c99_tree.specs.Tree.{Forest, none, token, node, Node}
use Rattle.c99_tree.specs.declared.production.Label.{Label}
use Rattle.c99_tree.specs.declared.production.Production.{Production}
use Rattle.c99_tree.specs.declared.production.Production.TheVariants.{MemRest, Enumerator, Direct, Pdirect}
use Rattle.c99_tree.specs.contracts.production.ProductionPartialEq.TheImpl.{ghosts}
use Rattle.c_types.specs.Trees.{is_at, is_node}
use Rattle.c_types.specs.Declarations.{Facts}
use Rattle.scope_bind.specs.declared.bound.Name.{Name}
use Rattle.scope_bind.specs.Named.{Occurrence, is_plain_role}
use Rattle.scope_bind.specs.Roles.{role_of}
use Rattle.scope_bind.specs.Bound.{Bound, name_of, facts_of}
use Rattle.tree_laws.specs.TreesOfTexts.{token_count, AreFrom, begins_with_token, is_name_place, names_pass, IsTreeOf}
use Rattle.tree_laws.specs.BoundNames.{Binds, EachTokenIsOneName}
use Rattle.tree_laws.proofs.HeldNames.{binding_is}
use Rattle.tree_laws.proofs.Lookups.{In}
use Rattle.tree_laws.specs.ToldNames.{AnonymousBegin}
use Rattle.tree_laws.proofs.Sorted.{NoTwice}
use Rattle.tree_laws.proofs.Walking.{Places}

-- ---- Once

longer : (xs : List Name) (y : Name) → length (xs ++ y ∷ []) ≡ length xs + 1
longer [] y = omega arith
longer (x ∷ xs) y = omega (arith, longer xs y)

module _ (f : Occurrence → Name) (index_is : (o : Occurrence) → (f o).index ≡ o.index) where
  abbrev Apart : Name → Name → Type 0
  Apart m n = m.index ≢ n.index

  abbrev names_in : List Occurrence → List Name
  names_in os = reverse (map f os)

  one_more : (o : Occurrence) (os : List Occurrence) → names_in (o ∷ os) ≡ names_in os ++ f o ∷ []
  one_more o os = reverse-cons (f o) (map f os)

  -- where the name of an occurrence stands
  abbrev pub StandsAt : List Name → Name → Name → Type 0
  StandsAt xs d n = (k : ℕ) × (k < length xs) × (get_or xs k d ≡ n)

  stands_front : (xs : List Name) (y d n : Name) → StandsAt xs d n → StandsAt (xs ++ y ∷ []) d n
  stands_front xs y d n s = (s.0, omega (arith, s.1, longer xs y), get_or_append_left xs (y ∷ []) d s.0 s.1 ∙ s.2)

  stands_last : (xs : List Name) (y d : Name) → StandsAt (xs ++ y ∷ []) d y
  stands_last xs y d = (length xs, omega (arith, longer xs y), get_or-append_seam xs y [] d)

  pub stands : (p : Occurrence) (os : List Occurrence) (d : Name) → In p os → StandsAt (names_in os) d (f p)
  stands p [] d w = absurd w
  stands p (o ∷ os) d (inl same) =
      subst (λ (xs : List Name). StandsAt xs d (f p)) (sym (one_more o os)) (subst (λ q. StandsAt (names_in os ++ f o ∷ []) d (f q)) same (stands_last (names_in os) (f o) d))
  stands p (o ∷ os) d (inr w) =
      subst (λ (xs : List Name). StandsAt xs d (f p)) (sym (one_more o os)) (stands_front (names_in os) (f o) d (f p) (stands p os d w))

  front : (xs : List Name) (y : Name) → AllPairs Apart (xs ++ y ∷ []) → AllPairs Apart xs
  front xs y pairs i j d before within =
      let left : get_or (xs ++ y ∷ []) i d ≡ get_or xs i d = get_or_append_left xs (y ∷ []) d i (omega (arith, before, within)) in
      let right : get_or (xs ++ y ∷ []) j d ≡ get_or xs j d = get_or_append_left xs (y ∷ []) d j within in
      subst (λ (n : Name). Apart (get_or xs i d) n) right
      (subst (λ (n : Name). Apart n (get_or (xs ++ y ∷ []) j d)) left (pairs i j d before (omega (arith, within, longer xs y))))

  last : (xs : List Name) (y n : Name) → AllPairs Apart (xs ++ y ∷ []) → StandsAt xs y n → Apart n y
  last xs y n pairs s =
      let left : get_or (xs ++ y ∷ []) s.0 y ≡ n = get_or_append_left xs (y ∷ []) y s.0 s.1 ∙ s.2 in
      subst (λ (m : Name). Apart m y) left
      (subst (λ (m : Name). Apart (get_or (xs ++ y ∷ []) s.0 y) m) (get_or-append_seam xs y [] y) (pairs s.0 (length xs) y s.1 (omega (arith, longer xs y))))

  pub no_twice : (os : List Occurrence) → AllPairs Apart (names_in os) → NoTwice os
  no_twice [] pairs = tt
  no_twice (o ∷ os) pairs =
      let both : AllPairs Apart (names_in os ++ f o ∷ []) = subst (λ (xs : List Name). AllPairs Apart xs) (one_more o os) pairs in
      (λ p w same. last (names_in os) (f o) (f p) both (stands p os (f o) w) (index_is p ∙ (same ∙ sym (index_is o))), no_twice os (front (names_in os) (f o) both))

-- two that are noted with one token are one
pub one_noted : (os : List Occurrence) (o p : Occurrence) → NoTwice os → In o os → In p os → o.index ≡ p.index → o ≡ p
one_noted [] o p t w v e = absurd w
one_noted (q ∷ os) o p t (inl s) (inl r) e = sym s ∙ r
one_noted (q ∷ os) o p t (inl s) (inr v) e = absurd (t.0 p v (sym e ∙ sym (ap (λ (x : Occurrence). x.index) s)))
one_noted (q ∷ os) o p t (inr w) (inl r) e = absurd (t.0 o w (e ∙ sym (ap (λ (x : Occurrence). x.index) r)))
one_noted (q ∷ os) o p t (inr w) (inr v) e = one_noted os o p t.1 w v e

-- ---- Places of anonymous members

module _ (t : ℕ) where
  abbrev pub other : ℕ → Bool
  other i = not (i == t)

  passes : (c : Bool) (i : ℕ) → (i ≡ t → ⊥) → (not c || other i) ≡ true
  passes c i h = by c (ap not (ne_eqb i t h))
    where
      by : (c : Bool) → other i ≡ true → (not c || other i) ≡ true
      by true e = e
      by false e = refl

  -- names of other tokens
  outside : (l : Label) (k : ℕ) (f : Forest) (j : ℕ) → AreFrom j f → (j ≤ t → t < j + token_count f → ⊥) → names_pass other l k f ≡ true
  outside l k none j w out = refl
  outside l k (token i rest) j w out =
      and_from _ _ (passes (is_name_place l k) i (λ e. out (omega (arith, e, w.0)) (omega (arith, e, w.0))))
      (outside l (k + 1) rest (j + 1) w.1 (λ a b. out (omega (arith, a)) (omega (arith, b))))
  outside l k (node m first under rest) j w out =
      and_from _ _ (outside m 0 under j w.1 (λ a b. out a (omega (arith, b))))
      (outside l (k + 1) rest (j + token_count under) w.2 (λ a b. out (omega (arith, a)) (omega (arith, b))))

-- the first token of an anonymous member is no name
place_free : (p : Production) (a : ℕ) → ghosts.eq p MemRest ≡ true
    → (not (is_plain_role (role_of p a 0)) || (((ghosts.eq p Direct && (a == 1)) || (ghosts.eq p Pdirect && (a == 1))) || (ghosts.eq p Enumerator && (0 == 0)))) ≡ false
place_free MemRest a e = refl
place_free _ a e = absurd (false≢true e)

-- what is true of a token that no name in the tree is, is true of each place of an anonymous member
module _ (U : ℕ → Type 0) where
  places_here : (t : ℕ) (m : Label) (first : ℕ) (under : Forest) (j : ℕ) → is_at m MemRest 1 ≡ true → begins_with_token under ≡ true → (first ≡ j) → AreFrom j under
      → names_pass (other first) m 0 under ≡ true
  places_here t m first none j at begins e w = absurd (false≢true begins)
  places_here t m first (token i rest) j at begins e w =
      let free : is_name_place m 0 ≡ false = place_free m.production m.alternative (and_parts (is_node m MemRest) (m.alternative == 1) at).0 in
      and_from _ _ (ap (λ c. not c || other first i) free) (outside first m 1 rest (j + 1) w.1 (λ a b. omega (arith, a, e)))
  places_here t m first (node l second below rest) j at begins e w = absurd (false≢true begins)

  no_tokens : (under : Forest) (j first : ℕ) → begins_with_token under ≡ true → first ≡ j → (j ≤ first) × (first < j + token_count under)
  no_tokens none j first begins e = absurd (false≢true begins)
  no_tokens (token i rest) j first begins e = (omega (arith, e), omega (arith, e))
  no_tokens (node l second below rest) j first begins e = absurd (false≢true begins)

  pub places : (l : Label) (k : ℕ) (f : Forest) (j : ℕ) → AreFrom j f → AnonymousBegin f
      → ((t : ℕ) → j ≤ t → t < j + token_count f → names_pass (other t) l k f ≡ true → U t) → Places U f
  places l k none j w begin go = tt
  places l k (token i rest) j w begin go =
      places l (k + 1) rest (j + 1) w.1 begin
      (λ t a b h. go t (omega (arith, a)) (omega (arith, b)) (and_from _ _ (passes t (is_name_place l k) i (λ e. omega (arith, e, w.0, a))) h))
  places l k (node m first under rest) j w begin go = (
    λ at.
        let begins : begins_with_token under ≡ true = begin.0 at in
        let r = no_tokens under j first begins w.0 in
        go first r.0 (omega (arith, r.1))
        (and_from _ _ (places_here first m first under j at begins w.0 w.1) (outside first l (k + 1) rest (j + token_count under) w.2 (λ a b. omega (arith, a, r.1)))),
    places m 0 under j w.1 begin.1
        (λ t a b h. go t a (omega (arith, b)) (and_from _ _ h (outside t l (k + 1) rest (j + token_count under) w.2 (λ c d. omega (arith, c, b))))),
    places l (k + 1) rest (j + token_count under) w.2 begin.2
        (λ t a b h. go t (omega (arith, a)) (omega (arith, b)) (and_from _ _ (outside t m 0 under j w.1 (λ c d. omega (arith, d, a))) h)),
  )

-- ---- A text that binds

module _ (names_apart : EachTokenIsOneName) (toks : List Token) (tree : Node) (b : Bound) (t : IsTreeOf (length toks) tree) (binds : Binds toks tree b) where
  abbrev pub final : Facts
  final = facts_of toks tree.under

  pub final_once : NoTwice final.occurrences
  final_once =
      no_twice (name_of final) (λ o. refl) final.occurrences
      (subst (λ (x : Bound). AllPairs (λ (m n : Name). m.index ≢ n.index) x.names) (binding_is toks tree b binds) (names_apart toks tree b t binds))
