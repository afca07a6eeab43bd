-- The way along a chain of declarations.
use Rattle.std.proofs.Common.{ℕ, zero, suc, ◌+◌, ◌-◌, ◌<◌, ◌≤◌, ◌≡◌, Bool, true, false, cond, List, [], ◌∷◌, reverse, take, length, get_or, Option, None, Some, refl, sym, ap, subst, ◌∙◌, inl, inr, if◌then◌else◌, add-one, arith}
use Rattle.std.specs.Prelude.{find, slice_get}
use Rattle.std.specs.Option.{option_or}
use Rattle.std.proofs.lemmas.Bool.{cases_Bool, cond-true, cond-false}
use Rattle.std.proofs.lemmas.List.{reverse-append, length-reverse, length-take-le, take-take}
use Rattle.std.proofs.Math.Seq.{take-length}
use Rattle.c_types.specs.declared.declarations.Declaration.{Declaration}
use Rattle.name_chains.specs.Latest.{tested}
use Rattle.name_chains.specs.Links.{latest_place, AreLinked, IsLeft}
use Rattle.name_chains.proofs.LatestLemmas.{take_one_more, slice_get_some, find_step}

pub back_more : (xs : List Declaration) (k : ℕ) (x : Declaration) → slice_get xs k ≡ Some x
    → reverse (take (suc k) xs) ≡ x ∷ reverse (take k xs)
back_more xs k x e = ap reverse (take_one_more xs k x e) ∙ reverse-append (take k xs) (x ∷ [])

pub length_back : (xs : List Declaration) (k : ℕ) → k ≤ length xs → length (reverse (take k xs)) ≡ k
length_back xs k l = length-reverse (take k xs) ∙ length-take-le k xs l

place_one : (b : Bool) (n m : ℕ) → m ≤ n → cond b (n + 1) m ≤ suc n
place_one true n m l = omega arith
place_one false n m l = omega (arith, l)

pub place_within : (test : Declaration → Bool) (ds : List Declaration) → latest_place test ds ≤ length ds
place_within test [] = omega arith
place_within test (d ∷ ds) = place_one (test d) (length ds) (latest_place test ds) (place_within test ds)

-- ---- The way, and what is asked of the declarations before it, to which those that do not pass make no difference

module _ {T : Type 0} (test : Declaration → Bool) (asked : List Declaration → T)
    (skip : (d : Declaration) (ds : List Declaration) → test d ≡ false → asked (d ∷ ds) ≡ asked ds) (xs : List Declaration) where
  abbrev Left : List Declaration → ℕ → Type 0
  Left ds p = IsLeft test asked xs ds p

  -- the latest declaration passes
  left_here : (k : ℕ) (x : Declaration) → suc k ≤ length xs → slice_get xs k ≡ Some x → test x ≡ true
      → Left (x ∷ reverse (take k xs)) (latest_place test (x ∷ reverse (take k xs)))
  left_here k x l e holds =
      let n : length (reverse (take k xs)) ≡ k = length_back xs k (omega (arith, l)) in
      let q : latest_place test (x ∷ reverse (take k xs)) ≡ suc k =
      cond-true (test x) (length (reverse (take k xs)) + 1) (latest_place test (reverse (take k xs))) holds ∙ (ap (λ m. m + 1) n ∙ add-one k) in
      let b = back_more xs k x e in
      subst (λ p. Left (x ∷ reverse (take k xs)) p) (sym q)
      (record { within = l; again = ap (latest_place test) b ∙ q; rest = ap asked b })

  -- it does not
  left_past : (k : ℕ) (x : Declaration) → test x ≡ false → Left (reverse (take k xs)) (latest_place test (reverse (take k xs)))
      → Left (x ∷ reverse (take k xs)) (latest_place test (x ∷ reverse (take k xs)))
  left_past k x fails before =
      let q : latest_place test (x ∷ reverse (take k xs)) ≡ latest_place test (reverse (take k xs)) =
      cond-false (test x) (length (reverse (take k xs)) + 1) (latest_place test (reverse (take k xs))) fails in
      subst (λ p. Left (x ∷ reverse (take k xs)) p) (sym q)
      (record { within = before.within; again = before.again; rest = before.rest ∙ sym (skip x (reverse (take k xs)) fails) })

  -- the latest place among so many is a place to go on from
  left_of : (k : ℕ) → k ≤ length xs → Left (reverse (take k xs)) (latest_place test (reverse (take k xs)))
  left_of zero l = record { within = omega arith; again = refl; rest = refl }
  left_of (suc k) l =
      let x = slice_get_some xs k (omega (arith, l)) in
      let before = left_of k (omega (arith, l)) in
      subst (λ ds. Left ds (latest_place test ds)) (sym (back_more xs k x.0 x.1))
      (elim (cases_Bool (test x.0)) [ inl holds ↦ left_here k x.0 l x.1 holds | inr fails ↦ left_past k x.0 fails before ])

  -- and so is the latest one of all
  pub left_whole : Left (reverse xs) (latest_place test (reverse xs))
  left_whole = subst (λ ys. Left (reverse ys) (latest_place test (reverse ys))) (take-length xs) (left_of (length xs) (omega arith))

  -- the way begins
  pub left_all : (before : List ℕ) (newest : ℕ) → AreLinked test xs before newest → Left (reverse xs) newest
  left_all before newest linked = subst (λ p. Left (reverse xs) p) (sym linked.begins) left_whole

  -- what stands at the place makes no difference
  pub left_on : (k p : ℕ) (x : Declaration) (ds : List Declaration) → Left ds (suc k) → slice_get xs k ≡ Some x
      → asked (x ∷ reverse (take k xs)) ≡ asked (reverse (take k xs)) → IsLeft test asked (take k xs) (reverse (take k xs)) p → Left ds p
  left_on k p x ds left e none down =
      let n : length (take k xs) ≡ k = length-take-le k xs (omega (arith, left.within)) in
      let t : take p (take k xs) ≡ take p xs = take-take p k xs (omega (arith, down.within, n)) in
      record {
        within = omega (arith, down.within, n, left.within);
        again = ap (λ ys. latest_place test (reverse ys)) (sym t) ∙ down.again;
        rest = ap (λ ys. asked (reverse ys)) (sym t) ∙ (down.rest ∙ (sym none ∙ (ap asked (sym (back_more xs k x e)) ∙ left.rest)));
      }

module _ (test : Declaration → Bool) (xs : List Declaration) where
  -- the place is of one that passes
  pub passes_here : (k : ℕ) (x : Declaration) → suc k ≤ length xs → slice_get xs k ≡ Some x
      → latest_place test (reverse (take (suc k) xs)) ≡ suc k → test x ≡ true
  passes_here k x l e again =
      elim (cases_Bool (test x)) [
        | inl holds ↦ holds
        | inr fails ↦
            let q : latest_place test (reverse (take (suc k) xs)) ≡ latest_place test (reverse (take k xs)) =
            ap (latest_place test) (back_more xs k x e)
            ∙ cond-false (test x) (length (reverse (take k xs)) + 1) (latest_place test (reverse (take k xs))) fails in
            absurd (omega (arith, q, again, place_within test (reverse (take k xs)), length_back xs k (omega (arith, l))))
      ]

  -- the place before it
  pub leads_to : (before : List ℕ) (newest k : ℕ) → AreLinked test xs before newest → suc k ≤ length xs
      → latest_place test (reverse (take (suc k) xs)) ≡ suc k → get_or before k 0 ≡ latest_place test (reverse (take k xs))
  leads_to before newest k linked l again =
      let x = slice_get_some xs k (omega (arith, l)) in
      linked.leads k x.0 x.1 (passes_here k x.0 l x.1 again)

  -- .. is an earlier one
  pub falls : (before : List ℕ) (newest p : ℕ) → AreLinked test xs before newest → p ≤ length xs
      → latest_place test (reverse (take p xs)) ≡ p → 0 < p → get_or before (p - 1) 0 < p
  falls before newest zero linked within again l = absurd (omega (arith, l))
  falls before newest (suc k) linked within again l =
      let m : suc k - 1 ≡ k = omega arith in
      rw m
      (omega (arith, leads_to before newest k linked within again, place_within test (reverse (take k xs)), length_back xs k (omega (arith, within))))

-- ---- The search for the latest one that passes

not_found : (b : Bool) (x : Declaration) (rest : Option Declaration) → (if b then Some x else None) ≡ None → cond b (Some x) rest ≡ rest
not_found true x rest e = cc
not_found false x rest e = refl

module _ (test sought : Declaration → Bool) (apart : (d : Declaration) → test d ≡ false → sought d ≡ false) (xs : List Declaration) where
  skip_search : (d : Declaration) (ds : List Declaration) → test d ≡ false → find sought (d ∷ ds) ≡ find sought ds
  skip_search d ds fails = cond-false (sought d) (Some d) (find sought ds) (apart d fails)

  abbrev Sought : ℕ → Type 0
  Sought p = IsLeft test (find sought) xs (reverse xs) p

  pub search_all : (before : List ℕ) (newest : ℕ) → AreLinked test xs before newest → Sought newest
  search_all before newest linked = left_all test (find sought) skip_search xs before newest linked

  -- what stands at the place is not sought
  pub search_on : (p next : ℕ) (r : Option Declaration) → Sought p → 0 < p → r ≡ tested sought (slice_get xs (p - 1)) → r ≡ None
      → IsLeft test (find sought) (take (p - 1) xs) (reverse (take (p - 1) xs)) next → Sought next
  search_on zero next r left l f g down = absurd (omega (arith, l))
  search_on (suc k) next r left l f g down =
      let m : suc k - 1 ≡ k = omega arith in
      let x = slice_get_some xs k (omega (arith, left.within)) in
      let at = ap (tested sought) (sym x.1) ∙ (sym (f ∙ ap (λ j. tested sought (slice_get xs j)) m) ∙ g) in
      left_on test (find sought) skip_search xs k next x.0 (reverse xs) left x.1 (not_found (sought x.0) x.0 (find sought (reverse (take k xs))) at)
      (subst (λ j. IsLeft test (find sought) (take j xs) (reverse (take j xs)) next) m down)

  -- it is
  pub search_found : (p : ℕ) (r : Option Declaration) (d : Declaration) → Sought p → 0 < p
      → r ≡ tested sought (slice_get xs (p - 1)) → r ≡ Some d → Some d ≡ find sought (reverse xs)
  search_found zero r d left l f g = absurd (omega (arith, l))
  search_found (suc k) r d left l f g =
      let m : suc k - 1 ≡ k = omega arith in
      let at = f ∙ ap (λ j. tested sought (slice_get xs j)) m in
      let step = ap (λ j. find sought (reverse (take j xs))) (sym (add-one k)) ∙ find_step sought xs k (omega (arith, left.within)) in
      let some = ap (λ o. option_or o (find sought (reverse (take k xs)))) (sym at ∙ g) in
      sym (sym left.rest ∙ (step ∙ some))
