-- The way along a chain, past declarations that have ended.
use borrow.Author.Tests.{ltb-true, ltb-false}
use Rattle.std.proofs.Common.{Bool, true, false, ◌&&◌, ℕ, zero, suc, ◌-◌, ◌<◌, ◌≤◌, ◌≡◌, cond, nat_lt, List, [], ◌∷◌, ◌++◌, reverse, take, length, get_or, Option, None, Some, refl, sym, ap, subst, ◌∙◌, inl, inr, arith}
use Rattle.std.specs.Prelude.{not, find, filter, slice_get}
use Rattle.std.proofs.lemmas.Bool.{cases_Bool, eqb-true, cond-false, cond_both, not-true}
use Rattle.std.proofs.lemmas.List.{length_push, length-take-le, get_or_append_left, get_or_push}
use Rattle.std.proofs.Math.Seq.{take-append_seam}
use Rattle.cs_base.specs.Token.{Token}
use Rattle.cs_base.proofs.BoolLemmas.{and_none as and_false}
use Rattle.c_types.specs.declared.declarations.Declaration.{Declaration}
use Rattle.c_types.specs.declared.declarations.Space.{Space}
use Rattle.name_chains.specs.declared.latest.Asked.{Asked}
use Rattle.name_chains.specs.declared.latest.Asked.TheVariants.{Live, Within, Tag, Anywhere}
use Rattle.c_types.specs.Declarations.{is_live, is_named}
use Rattle.name_chains.specs.Latest.{passes}
use Rattle.name_chains.specs.Spellings.{AreNumbers}
use Rattle.name_chains.specs.Links.{has_key, latest_place, AreLinked, IsLeft}
use Rattle.name_chains.specs.Chains.{name_key, name_key_of, lasts, has_begun, has_ended, next_at, next_place, asked_at, AreOver}
use Rattle.name_chains.proofs.LatestLemmas.{slice_get_some}
use Rattle.name_chains.proofs.ChainLemmas.{passes_here, leads_to, left_whole, left_all, left_on}
use Rattle.name_chains.proofs.ChainedMore.{get_front, take_front, apart}

not_before : (m n : ℕ) → n ≤ m → nat_lt m n ≡ false
not_before m n l = elim (cases_Bool (nat_lt m n)) [ inl before ↦ absurd (omega (arith, l, ltb-true m n before)) | inr e ↦ e ]

-- ---- Declarations that do not pass are left out

module _ (p s : Declaration → Bool) (implied : (d : Declaration) → p d ≡ false → s d ≡ false) where
  find_few : (xs : List Declaration) → find s (filter p xs) ≡ find s xs
  find_few [] = refl
  find_few (x ∷ xs) = elim (cases_Bool (p x)) [
    | inl holds ↦ rw holds (ap (λ o. cond (s x) (Some x) o) (find_few xs))
    | inr fails ↦ rw (fails, implied x fails) (find_few xs)
  ]

  filter_few : (xs : List Declaration) → filter s (filter p xs) ≡ filter s xs
  filter_few [] = refl
  filter_few (x ∷ xs) = elim (cases_Bool (p x)) [
    | inl holds ↦ rw holds (ap (λ ys. cond (s x) (x ∷ ys) ys) (filter_few xs))
    | inr fails ↦ rw (fails, implied x fails) (filter_few xs)
  ]

  find_same : (ys zs : List Declaration) → filter p ys ≡ filter p zs → find s ys ≡ find s zs
  find_same ys zs e = sym (find_few ys) ∙ (ap (find s) e ∙ find_few zs)

  filter_same : (ys zs : List Declaration) → filter p ys ≡ filter p zs → filter s ys ≡ filter s zs
  filter_same ys zs e = sym (filter_few ys) ∙ (ap (filter s) e ∙ filter_few zs)

-- ---- The next place

module _ {T : Type 0} (key_of : Declaration → ℕ) (n : ℕ) (asked : List Declaration → T)
    (skip : (d : Declaration) (ds : List Declaration) → has_key key_of n d ≡ false → asked (d ∷ ds) ≡ asked ds)
    (xs : List Declaration) (before over : List ℕ) (newest : ℕ) (linked : AreLinked (has_key key_of n) xs before newest) (past : AreOver key_of xs over) where
  abbrev Down : ℕ → ℕ → Type 0
  Down k p = IsLeft (has_key key_of n) asked (take k xs) (reverse (take k xs)) p

  -- nothing is asked of what has ended at the token
  abbrev Narrow : ℕ → Type 0
  Narrow at = (from : ℕ) (ys zs : List Declaration) → from ≤ at → filter (lasts key_of n from) ys ≡ filter (lasts key_of n from) zs → asked ys ≡ asked zs

  by_before : (k : ℕ) → suc k ≤ length xs → latest_place (has_key key_of n) (reverse (take (suc k) xs)) ≡ suc k → Down k (get_or before k 0)
  by_before k l again =
      subst (Down k) (sym (leads_to (has_key key_of n) xs before newest k linked l again)) (left_whole (has_key key_of n) asked skip (take k xs))

  by_over : (at k : ℕ) (d : Declaration) → Narrow at → slice_get xs k ≡ Some d → n ≡ key_of d → d.from ≤ at → Down k (get_or over k 0)
  by_over at k d narrow e same begun =
      let o : IsLeft (has_key key_of n) (filter (lasts key_of n d.from)) (take k xs) (reverse (take k xs)) (get_or over k 0) =
      subst (λ m. IsLeft (has_key key_of m) (filter (lasts key_of m d.from)) (take k xs) (reverse (take k xs)) (get_or over k 0)) (sym same) (past.leads k d e) in
      record {
        within = o.within;
        again = o.again;
        rest = narrow d.from (reverse (take (get_or over k 0) (take k xs))) (reverse (take k xs)) begun o.rest;
      }

  next_down : (at k : ℕ) → Narrow at → suc k ≤ length xs → latest_place (has_key key_of n) (reverse (take (suc k) xs)) ≡ suc k
      → Down k (next_at xs before over at k)
  next_down at k narrow l again =
      let x = slice_get_some xs k (omega (arith, l)) in
      let same : n ≡ key_of x.0 = eqb-true n (key_of x.0) (passes_here (has_key key_of n) xs k x.0 l x.1 again) in
      subst (λ o. Down k (cond (has_begun at o) (get_or over k 0) (get_or before k 0))) (sym x.1)
      (cond_both (has_begun at (Some x.0)) (get_or over k 0) (get_or before k 0) (Down k)
      (λ begun. by_over at k x.0 narrow x.1 same (ltb-false at x.0.from (not-true (nat_lt at x.0.from) begun)))
      (λ _. by_before k l again))

  place_down : (a : Option ℕ) (k : ℕ) → ((at : ℕ) → a ≡ Some at → Narrow at) → suc k ≤ length xs
      → latest_place (has_key key_of n) (reverse (take (suc k) xs)) ≡ suc k → Down k (next_place xs before over a k)
  place_down None k narrow l again = by_before k l again
  place_down (Some at) k narrow l again = next_down at k (narrow at refl) l again

  -- it is an earlier one
  down_falls : (k p : ℕ) → suc k ≤ length xs → Down k p → p < suc k
  down_falls k p l down = omega (arith, down.within, length-take-le k xs (omega (arith, l)))

-- ---- Those that last beyond a token

module _ (key_of : Declaration → ℕ) (n at : ℕ) where
  abbrev lasting : List Declaration → List Declaration
  lasting ds = filter (lasts key_of n at) ds

  lasts_not : (d : Declaration) → d.to ≤ at → lasts key_of n at d ≡ false
  lasts_not d l = and_false (has_key key_of n d) (nat_lt at d.to) (not_before at d.to l)

  skip_other : (d : Declaration) (ds : List Declaration) → has_key key_of n d ≡ false → lasting (d ∷ ds) ≡ lasting ds
  skip_other d ds fails = rw fails refl

  lasts_fewer : (from : ℕ) (d : Declaration) → from ≤ at → lasts key_of n from d ≡ false → lasts key_of n at d ≡ false
  lasts_fewer from d l fails = elim (cases_Bool (has_key key_of n d)) [
    | inr other ↦ rw other refl
    | inl own ↦
        let ended : nat_lt from d.to ≡ false = rw own at fails in
        lasts_not d (omega (arith, l, ltb-false from d.to ended))
  ]

  narrow_lasting : (from : ℕ) (ys zs : List Declaration) → from ≤ at → filter (lasts key_of n from) ys ≡ filter (lasts key_of n from) zs → lasting ys ≡ lasting zs
  narrow_lasting from ys zs l e = filter_same (lasts key_of n from) (lasts key_of n at) (λ d fails. lasts_fewer from d l fails) ys zs e

  module _ (xs : List Declaration) (before over : List ℕ) (newest : ℕ) (linked : AreLinked (has_key key_of n) xs before newest) (past : AreOver key_of xs over) where
    abbrev Lasting : ℕ → Type 0
    Lasting p = IsLeft (has_key key_of n) lasting xs (reverse xs) p

    pub lasting_all : Lasting newest
    lasting_all = left_all (has_key key_of n) lasting skip_other xs before newest linked

    -- what stands at the place has ended
    pub lasting_on : (p next : ℕ) → Lasting p → 0 < p → has_ended at (slice_get xs (p - 1)) ≡ true → next ≡ next_at xs before over at (p - 1)
        → Lasting next × (next < p)
    lasting_on zero next left l ended e = absurd (omega (arith, l))
    lasting_on (suc k) next left l ended e =
        let m : suc k - 1 ≡ k = omega arith in
        let x = slice_get_some xs k (omega (arith, left.within)) in
        let past_here : has_ended at (Some x.0) ≡ true = ap (has_ended at) (sym x.1) ∙ (ap (λ j. has_ended at (slice_get xs j)) (sym m) ∙ ended) in
        let none = cond-false (lasts key_of n at x.0) (x.0 ∷ lasting (reverse (take k xs))) (lasting (reverse (take k xs)))
        (lasts_not x.0 (ltb-false at x.0.to (not-true (nat_lt at x.0.to) past_here))) in
        let down = subst (IsLeft (has_key key_of n) lasting (take k xs) (reverse (take k xs))) (sym (e ∙ ap (next_at xs before over at) m))
        (next_down key_of n lasting skip_other xs before over newest linked past at k narrow_lasting left.within left.again) in (
          left_on (has_key key_of n) lasting skip_other xs k next x.0 (reverse xs) left x.1 none down,
          down_falls key_of n lasting skip_other xs before over newest linked past k next left.within down,
        )

-- ---- One declaration more

pub over_more : (key_of : Declaration → ℕ) (xs : List Declaration) (over : List ℕ) (d : Declaration) (p : ℕ) → AreOver key_of xs over
    → IsLeft (has_key key_of (key_of d)) (filter (lasts key_of (key_of d) d.from)) xs (reverse xs) p → AreOver key_of (xs ++ d ∷ []) (over ++ p ∷ [])
over_more key_of xs over d p a left =
    let way : Declaration → List Declaration → ℕ → Type 0 =
    λ e ys q. IsLeft (has_key key_of (key_of e)) (filter (lasts key_of (key_of e) e.from)) ys (reverse ys) q in
    record {
      each = omega (arith, length_push xs d, length_push over p, a.each);
      leads = λ k e h. elim (get_front xs d k e h) [
        | inl at ↦
            subst (way e (take k (xs ++ d ∷ []))) (sym (get_or_append_left over (p ∷ []) 0 k (omega (arith, at.0, a.each))))
            (subst (λ ys. way e ys (get_or over k 0)) (sym (take_front xs (d ∷ []) k at.0)) (a.leads k e at.1))
        | inr last ↦
            subst (way e (take k (xs ++ d ∷ []))) (sym (get_or_push over p 0 k (a.each ∙ sym last.0)))
            (subst (λ ys. way e ys p) (sym (ap (λ j. take j (xs ++ d ∷ [])) last.0 ∙ take-append_seam xs (d ∷ [])))
            (subst (λ f. way f xs p) (sym last.1) left))
      ];
    }

-- ---- What is asked of none that has ended

not_live : (at : ℕ) (d : Declaration) → d.to ≤ at → is_live at d ≡ false
not_live at d l = and_false (not (nat_lt at d.from)) (nat_lt at d.to) (not_before at d.to l)

ended_fails : (asked : Asked) (at : ℕ) (d : Declaration) → asked_at asked ≡ Some at → d.to ≤ at → passes asked d ≡ false
ended_fails (Live m) at d e l = let s : m ≡ at = cc in rw (s, not_live at d l) refl
ended_fails (Within m depth) at d e l = let s : m ≡ at = cc in rw (s, not_live at d l) refl
ended_fails (Tag m anew depth) at d e l = let s : m ≡ at = cc in rw (s, not_live at d l) refl
ended_fails Anywhere at d e l = cc

module _ (toks : List Token) (numbers : List ℕ) (are : AreNumbers toks numbers) (space : Space) (i : ℕ) (asked : Asked) where
  abbrev key : ℕ
  key = name_key numbers space i

  abbrev test : Declaration → Bool
  test = has_key (name_key_of numbers) key

  abbrev sought : Declaration → Bool
  sought d = is_named toks space i d && passes asked d

  skip_sought : (d : Declaration) (ds : List Declaration) → test d ≡ false → find sought (d ∷ ds) ≡ find sought ds
  skip_sought d ds fails = cond-false (sought d) (Some d) (find sought ds) (apart toks numbers are space i (passes asked) d fails)

  sought_lasts : (at from : ℕ) (d : Declaration) → asked_at asked ≡ Some at → from ≤ at → lasts (name_key_of numbers) key from d ≡ false → sought d ≡ false
  sought_lasts at from d e l fails = elim (cases_Bool (test d)) [
    | inr other ↦ apart toks numbers are space i (passes asked) d other
    | inl own ↦
        let ended : nat_lt from d.to ≡ false = rw own at fails in
        and_false (is_named toks space i d) (passes asked d) (ended_fails asked at d e (omega (arith, l, ltb-false from d.to ended)))
  ]

  narrow_sought : (at : ℕ) → asked_at asked ≡ Some at → (from : ℕ) (ys zs : List Declaration) → from ≤ at
      → filter (lasts (name_key_of numbers) key from) ys ≡ filter (lasts (name_key_of numbers) key from) zs → find sought ys ≡ find sought zs
  narrow_sought at e from ys zs l f = find_same (lasts (name_key_of numbers) key from) sought (λ d fails. sought_lasts at from d e l fails) ys zs f

  module _ (xs : List Declaration) (before over : List ℕ) (newest : ℕ) (linked : AreLinked test xs before newest) (past : AreOver (name_key_of numbers) xs over) where
    -- the place to go on from, where what stands at the place is not sought
    pub sought_down : (p next : ℕ) → IsLeft test (find sought) xs (reverse xs) p → 0 < p → next ≡ next_place xs before over (asked_at asked) (p - 1)
        → IsLeft test (find sought) (take (p - 1) xs) (reverse (take (p - 1) xs)) next × (next < p)
    sought_down zero next left l e = absurd (omega (arith, l))
    sought_down (suc k) next left l e =
        let m : suc k - 1 ≡ k = omega arith in
        let down = subst (IsLeft test (find sought) (take k xs) (reverse (take k xs))) (sym (e ∙ ap (next_place xs before over (asked_at asked)) m))
        (place_down (name_key_of numbers) key (find sought) skip_sought xs before over newest linked past (asked_at asked) k narrow_sought left.within left.again) in (
          subst (λ j. IsLeft test (find sought) (take j xs) (reverse (take j xs)) next) (sym m) down,
          down_falls (name_key_of numbers) key (find sought) skip_sought xs before over newest linked past k next left.within down,
        )
