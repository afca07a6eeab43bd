-- Members of a structure or union by their number.
use borrow.Author.Tests.{ltb-true, ltb-false}
use Rattle.std.proofs.Common.{ℕ, zero, suc, ◌+◌, ◌-◌, ◌<◌, ◌≤◌, ◌≡◌, Bool, true, false, nat_lt, List, [], ◌∷◌, ◌++◌, reverse, take, drop, length, get_or, if◌then◌else◌, Option, None, Some, refl, sym, ap, subst, ◌∙◌, ◌⊎◌, inl, inr, arith}
use Rattle.std.specs.Prelude.{not, filter, slice_get, ◌==◌}
use Rattle.std.proofs.lemmas.Bool.{cases_eq, eq-eqb, ne_eqb, cond-true, cond-false, cond_both, not-false, not-true}
use Rattle.std.proofs.lemmas.List.{reverse-append, length-take-le, take-take, take-append-drop, length_push}
use Rattle.std.proofs.lemmas.Option.{slice_get_past}
use Rattle.c_types.specs.declared.declarations.Declaration.{Declaration}
use Rattle.name_chains.specs.declared.structures.Rank.{Rank}
use Rattle.name_chains.specs.Places.{is_member_of}
use Rattle.name_chains.specs.Links.{Links, latest_place, AreChained, AreLinked, IsLeft}
use Rattle.name_chains.specs.Linked.{at_place}
use Rattle.name_chains.specs.Chains.{member_key_of}
use Rattle.name_chains.specs.Ranks.{rank_at, IsPlace, IsRank, AreRanked, depth_at, jump_at, next_towards}
use Rattle.name_chains.proofs.Reversed.{filter_append, filter_twice}
use Rattle.name_chains.proofs.LatestLemmas.{take_one_more, slice_get_some}
use Rattle.name_chains.proofs.LinkedLemmas.{slice_front, slice_last, at_suc}
use Rattle.name_chains.proofs.ChainLemmas.{passes_here, leads_to, left_whole, left_all, left_on}
use Rattle.name_chains.proofs.ChainedMore.{joined_by}

-- ---- Those that pass, up to a place

module _ (test : Declaration → Bool) (xs : List Declaration) where
  filter_here : (k : ℕ) (x : Declaration) → slice_get xs k ≡ Some x → test x ≡ true → filter test (take (suc k) xs) ≡ filter test (take k xs) ++ x ∷ []
  filter_here k x e holds =
      ap (filter test) (take_one_more xs k x e)
      ∙ (filter_append test (take k xs) (x ∷ [])
      ∙ ap (λ ys. filter test (take k xs) ++ ys) (cond-true (test x) (x ∷ []) [] holds))

  -- the first ones are those of a front
  filter_front : (j n : ℕ) → n < length (filter test (take j xs)) → slice_get (filter test (take j xs)) n ≡ slice_get (filter test xs) n
  filter_front j n l =
      sym (slice_front (filter test (take j xs)) (filter test (drop j xs)) n l)
      ∙ (ap (λ ys. slice_get ys n) (sym (filter_append test (take j xs) (drop j xs)))
      ∙ ap (λ ys. slice_get (filter test ys) n) (take-append-drop j xs))

  -- a place among the first ones
  place_up : (k j : ℕ) → k ≤ length xs → IsPlace test (take k xs) j → IsPlace test xs j
  place_up k j l at =
      let n : length (take k xs) ≡ k = length-take-le k xs l in
      record {
        within = omega (arith, l, n, at.within);
        again = ap (λ ys. latest_place test (reverse ys)) (sym (take-take j k xs (omega (arith, at.within, n)))) ∙ at.again;
      }

  pub no_place : IsPlace test xs 0
  no_place = record { within = omega arith; again = refl }

module _ (number : ℕ) (xs : List Declaration) (ranks : List Rank) (ranked : AreRanked xs ranks) where
  abbrev own : Declaration → Bool
  own = is_member_of number

  abbrev At : ℕ → Type 0
  At p = IsPlace own xs p

  depth_suc : (k : ℕ) → depth_at ranks (suc k) ≡ (rank_at ranks k).depth
  depth_suc k =
      let m : suc k - 1 ≡ k = omega arith in
      cond-false (suc k == 0) 0 (rank_at ranks (suc k - 1)).depth (ne_eqb (suc k) 0 (λ e. omega (arith, e))) ∙ ap (λ j. (rank_at ranks j).depth) m

  jump_suc : (k : ℕ) → jump_at ranks (suc k) ≡ (rank_at ranks k).jump
  jump_suc k =
      let m : suc k - 1 ≡ k = omega arith in
      cond-false (suc k == 0) 0 (rank_at ranks (suc k - 1)).jump (ne_eqb (suc k) 0 (λ e. omega (arith, e))) ∙ ap (λ j. (rank_at ranks j).jump) m

  member_here : (k : ℕ) (x : Declaration) → At (suc k) → slice_get xs k ≡ Some x → own x ≡ true
  member_here k x at e = passes_here own xs k x at.within e at.again

  rank_here : (k : ℕ) (x : Declaration) → At (suc k) → slice_get xs k ≡ Some x → IsRank number x.name_at (take k xs) (rank_at ranks k)
  rank_here k x at e = ranked.told k number x e (member_here k x at e)

  -- how many there are up to a place
  pub depth_is : (p : ℕ) → At p → depth_at ranks p ≡ length (filter own (take p xs))
  depth_is zero at = refl
  depth_is (suc k) at =
      let x = slice_get_some xs k (omega (arith, at.within)) in
      depth_suc k
      ∙ ((rank_here k x.0 at x.1).depth
      ∙ (sym (length_push (filter own (take k xs)) x.0)
      ∙ ap length (sym (filter_here own xs k x.0 x.1 (member_here k x.0 at x.1)))))

  jump_down : (k : ℕ) → At (suc k) → IsPlace own (take k xs) (rank_at ranks k).jump
  jump_down k at = let x = slice_get_some xs k (omega (arith, at.within)) in (rank_here k x.0 at x.1).jump

  -- a jump leads to a place
  pub jump_is : (p : ℕ) → At p → At (jump_at ranks p)
  jump_is zero at = no_place own xs
  jump_is (suc k) at =
      subst At (sym (jump_suc k)) (place_up own xs k (rank_at ranks k).jump (omega (arith, at.within)) (jump_down k at))

  pub jump_made : (p j : ℕ) → At p → (j ≡ p) ⊎ (j ≡ jump_at ranks (jump_at ranks p)) → At j
  jump_made p j at (inl e) = subst At (sym e) at
  jump_made p j at (inr e) = subst At (sym e) (jump_is (jump_at ranks p) (jump_is p at))

  module _ (structures : Links) (owned : AreChained member_key_of xs structures) (newest : ℕ) (begins : newest ≡ get_or structures.newest (number + 1) 0) where
    linked : AreLinked own xs structures.before newest
    linked = joined_by xs structures number (number + 1) newest owned refl begins

    abbrev all : List Declaration → List Declaration
    all ds = reverse (filter own ds)

    skip_all : (d : Declaration) (ds : List Declaration) → own d ≡ false → all (d ∷ ds) ≡ all ds
    skip_all d ds fails = ap reverse (cond-false (own d) (d ∷ filter own ds) (filter own ds) fails)

    newest_left : IsLeft own all xs (reverse xs) newest
    newest_left = left_all own all skip_all xs structures.before newest linked

    pub newest_is : At newest
    newest_is = record { within = newest_left.within; again = newest_left.again }

    -- how many there are
    pub count_is : depth_at ranks newest ≡ length (filter own xs)
    count_is =
        depth_is newest newest_is
        ∙ ap length (sym (filter_twice own (take newest xs)) ∙ (newest_left.rest ∙ filter_twice own xs))

    -- ---- The way to number n

    module _ (n : ℕ) where
      abbrev asked : List Declaration → Option Declaration
      asked ds = slice_get (reverse (filter own ds)) n

      skip_asked : (d : Declaration) (ds : List Declaration) → own d ≡ false → asked (d ∷ ds) ≡ asked ds
      skip_asked d ds fails = ap (λ ys. slice_get ys n) (skip_all d ds fails)

      asked_twice : (ys : List Declaration) → asked (reverse ys) ≡ slice_get (filter own ys) n
      asked_twice ys = ap (λ zs. slice_get zs n) (filter_twice own ys)

      abbrev Way : ℕ → Type 0
      Way p = IsLeft own asked xs (reverse xs) p

      pub way_begins : Way newest
      way_begins = left_all own asked skip_asked xs structures.before newest linked

      way_at : (p : ℕ) → Way p → At p
      way_at p way = record { within = way.within; again = way.again }

      -- what is asked is not the one at the place
      asked_past : (k : ℕ) (x : Declaration) → own x ≡ true → n < length (filter own (take k xs))
          → asked (x ∷ reverse (take k xs)) ≡ asked (reverse (take k xs))
      asked_past k x holds l =
          let rest = filter own (reverse (take k xs)) in
          let m : reverse rest ≡ filter own (take k xs) = filter_twice own (take k xs) in
          ap (λ ys. slice_get (reverse ys) n) (cond-true (own x) (x ∷ rest) rest holds)
          ∙ (ap (λ ys. slice_get ys n) (reverse-append (x ∷ []) rest)
          ∙ slice_front (reverse rest) (x ∷ []) n (subst (λ ys. n < length ys) (sym m) l))

      abbrev Down : ℕ → ℕ → Type 0
      Down k p = IsLeft own asked (take k xs) (reverse (take k xs)) p

      by_jump : (k : ℕ) → At (suc k) → n < depth_at ranks (rank_at ranks k).jump → Down k (rank_at ranks k).jump
      by_jump k at l =
          let j = (rank_at ranks k).jump in
          let down = jump_down k at in
          let w : k ≤ length xs = omega (arith, at.within) in
          let same : take j (take k xs) ≡ take j xs = take-take j k xs (omega (arith, down.within, length-take-le k xs w)) in
          let many : n < length (filter own (take j (take k xs))) =
          subst (λ ys. n < length (filter own ys)) (sym same) (subst (λ m. n < m) (depth_is j (place_up own xs k j w down)) l) in
          record {
            within = down.within;
            again = down.again;
            rest = asked_twice (take j (take k xs)) ∙ (filter_front own (take k xs) j n many ∙ sym (asked_twice (take k xs)));
          }

      by_before : (k : ℕ) → At (suc k) → Down k (get_or structures.before k 0)
      by_before k at =
          subst (Down k) (sym (leads_to own xs structures.before newest k linked at.within at.again)) (left_whole own asked skip_asked (take k xs))

      next_down : (k : ℕ) → At (suc k) → Down k (next_towards structures.before ranks n k)
      next_down k at =
          let j = (rank_at ranks k).jump in
          cond_both (nat_lt n (depth_at ranks j)) j (get_or structures.before k 0) (Down k)
          (λ many. by_jump k at (ltb-true n (depth_at ranks j) many)) (λ _. by_before k at)

      -- a step of the way
      pub way_on : (p next : ℕ) → Way p → 0 < p → not (nat_lt (n + 1) (depth_at ranks p)) ≡ false → next ≡ next_towards structures.before ranks n (p - 1) → Way next × (next < p)
      way_on zero next way l more e = absurd (omega (arith, l))
      way_on (suc k) next way l more e =
          let many : n + 1 < depth_at ranks (suc k) = ltb-true (n + 1) (depth_at ranks (suc k)) (not-false (nat_lt (n + 1) (depth_at ranks (suc k))) more) in
          let m : suc k - 1 ≡ k = omega arith in
          let at = way_at (suc k) way in
          let x = slice_get_some xs k (omega (arith, way.within)) in
          let holds = member_here k x.0 at x.1 in
          let c : depth_at ranks (suc k) ≡ length (filter own (take k xs)) + 1 = depth_suc k ∙ (rank_here k x.0 at x.1).depth in
          let down = subst (Down k) (sym (e ∙ ap (next_towards structures.before ranks n) m)) (next_down k at) in (
            left_on own asked skip_asked xs k next x.0 (reverse xs) way x.1 (asked_past k x.0 holds (omega (arith, many, c))) down,
            omega (arith, down.within, length-take-le k xs (omega (arith, way.within))),
          )

      -- it ends at the member
      way_found : (p : ℕ) → Way p → depth_at ranks p ≡ n + 1 → at_place xs p ≡ slice_get (filter own xs) n
      way_found zero way e = let z : 0 ≡ n + 1 = e in absurd (omega (arith, z))
      way_found (suc k) way e =
          let at = way_at (suc k) way in
          let x = slice_get_some xs k (omega (arith, way.within)) in
          let holds = member_here k x.0 at x.1 in
          let c : n ≡ length (filter own (take k xs)) = omega (arith, e, depth_suc k, (rank_here k x.0 at x.1).depth) in
          let here : slice_get (filter own (take (suc k) xs)) n ≡ Some x.0 =
          ap (λ ys. slice_get ys n) (filter_here own xs k x.0 x.1 holds)
          ∙ (ap (slice_get (filter own (take k xs) ++ x.0 ∷ [])) c ∙ slice_last (filter own (take k xs)) x.0) in
          at_suc xs k
          ∙ (x.1
          ∙ (sym here
          ∙ (sym (asked_twice (take (suc k) xs)) ∙ (way.rest ∙ asked_twice xs))))

      -- or there is none
      way_lost : (p : ℕ) → Way p → depth_at ranks p < n + 1 → None ≡ slice_get (filter own xs) n
      way_lost p way few =
          sym (slice_get_past (filter own (take p xs)) n (omega (arith, few, depth_is p (way_at p way))))
          ∙ (sym (asked_twice (take p xs)) ∙ (way.rest ∙ asked_twice xs))

      pub way_ends : (p : ℕ) → Way p → 0 < p → not (nat_lt (n + 1) (depth_at ranks p)) ≡ true
          → (if depth_at ranks p == n + 1 then at_place xs p else None) ≡ slice_get (filter own xs) n
      way_ends p way l near =
          let most : depth_at ranks p ≤ n + 1 = ltb-false (n + 1) (depth_at ranks p) (not-true (nat_lt (n + 1) (depth_at ranks p)) near) in
          elim (cases_eq (depth_at ranks p) (n + 1)) [
            | inl same ↦ cond-true (depth_at ranks p == n + 1) (at_place xs p) None (eq-eqb (depth_at ranks p) (n + 1) same) ∙ way_found p way same
            | inr other ↦ cond-false (depth_at ranks p == n + 1) (at_place xs p) None (ne_eqb (depth_at ranks p) (n + 1) other) ∙ way_lost p way (omega (arith, most, other))
          ]

      pub way_over : (p : ℕ) → Way p → p ≡ 0 → None ≡ slice_get (filter own xs) n
      way_over p way e = let z : depth_at ranks p ≡ 0 = ap (depth_at ranks) e in way_lost p way (omega (arith, z))
