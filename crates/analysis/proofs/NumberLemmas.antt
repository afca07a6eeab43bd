-- Numbers in the order of their places, one for each place.
use Rattle.std.proofs.Common.{◌≡◌, ◌+◌, ◌<◌, ◌≤◌, ◌⊎◌, List, [], ◌∷◌, ◌++◌, length, Some, refl, sym, ap, ◌∙◌, subst, inl, inr, arith}
use Rattle.std.specs.List.{Contains}
use Rattle.std.specs.List.Sorted.{IsPermutation}
use Rattle.std.proofs.lemmas.List.Sorted.{Contains-permutation, IsPermutation-sym}
use Rattle.std.proofs.lemmas.Option.{slice_get-get_or, slice_get_within, get_or_from_slice_get}
use Rattle.cs_base.specs.Token.{Token}
use Rattle.cs_base.proofs.ListLemmas.{in_front as pushed_old}
use Rattle.analysis.specs.FileTokens.{span_of}
use Rattle.analysis.specs.BroughtNumbers.{IsAmong, StandsFor, AreInOrder, AreNumbers, ComesBehind, AddsOnce}
use Rattle.analysis.proofs.PushedLemmas.{pushed_cases, pushed_own}

-- ---- tokens of a list

among_old : (xs : List Token) (x t : Token) → IsAmong xs t → IsAmong (xs ++ x ∷ []) t
among_old xs x t a = (a.0, pushed_old xs (x ∷ []) t a.0 a.1)

among_own : (xs : List Token) (x : Token) → IsAmong (xs ++ x ∷ []) x
among_own xs x = (length xs, pushed_own xs x)

among_cases : (xs : List Token) (x t : Token) → IsAmong (xs ++ x ∷ []) t → IsAmong xs t ⊎ (x ≡ t)
among_cases xs x t a = elim (pushed_cases xs x t a.0 a.1) [ inl old ↦ inl (a.0, old.1) | inr own ↦ inr own.1 ]

among_moved : (xs ys : List Token) (t : Token) → IsPermutation xs ys → IsAmong xs t → IsAmong ys t
among_moved xs ys t moved a =
    let there : Contains xs t = (a.0, slice_get_within xs a.0 t a.1, get_or_from_slice_get xs a.0 t t a.1) in
    let c = Contains-permutation xs ys t moved there in
    (c.0, slice_get-get_or ys c.0 t c.1 ∙ ap (λ (s : Token). Some s) c.2)

-- ---- one number more

in_order-more : (xs : List Token) (x : Token) → AreInOrder xs → ComesBehind xs (span_of x) → AreInOrder (xs ++ x ∷ [])
in_order-more xs x h b = record {
  lines = λ k t at. elim (pushed_cases xs x t k at) [
    | inl old ↦ h.lines k t old.1
    | inr own ↦ let P : Token → Type 0 = λ v. (span_of v).start.file ≡ 0 in subst P own.1 b.lines
  ];
  some = λ k t at. elim (pushed_cases xs x t k at) [
    | inl old ↦ h.some k t old.1
    | inr own ↦ let P : Token → Type 0 = λ v. 0 < (span_of v).len in subst P own.1 b.some
  ];
  ordered = λ j k s t less at_j at_k. elim (pushed_cases xs x t k at_k) [
    | inl old ↦ elim (pushed_cases xs x s j at_j) [
      | inl there ↦ h.ordered j k s t less there.1 old.1
      | inr own ↦ let same = own.0 in let within = old.0 in absurd (omega arith)
    ]
    | inr own ↦ elim (pushed_cases xs x s j at_j) [
      | inl there ↦
          let P : Token → Type 0 = λ v. (span_of s).start.at + (span_of s).len ≤ (span_of v).start.at in
          subst P own.1 (b.behind j s there.1)
      | inr also ↦ let same = own.0 in let here = also.0 in absurd (omega arith)
    ]
  ];
}

pub adds_once : (xs ys : List Token) (x : Token) → AreInOrder xs → ComesBehind xs (span_of x) → ys ≡ xs ++ x ∷ [] → AddsOnce x xs ys
adds_once xs ys x h b is =
    let P : List Token → Type 0 = λ v. AddsOnce x xs v in
    subst P (sym is) (record {
      own = record { token = x; among = among_own xs x; place = refl; text = refl };
      kept = λ s a. among_old xs x s a;
      only = λ s a. elim (among_cases xs x s a) [ inl old ↦ inl old | inr own ↦ inr (sym own) ];
      in_order = in_order-more xs x h b;
    })

pub numbers_more : (brought old new : List Token) (t : Token) → AreNumbers brought old → AddsOnce t old new → AreNumbers (brought ++ t ∷ []) new
numbers_more brought old new t h adds = record {
  each = λ s a. elim (adds.only s a) [
    | inl before ↦ among_old brought t s (h.each s before)
    | inr own ↦ let P : Token → Type 0 = λ v. IsAmong (brought ++ t ∷ []) v in subst P (sym own) (among_own brought t)
  ];
  all = λ s a. elim (among_cases brought t s a) [
    | inl before ↦
        let there = h.all s before in
        record { token = there.token; among = adds.kept there.token there.among; place = there.place; text = there.text }
    | inr own ↦ let P : Token → Type 0 = λ v. StandsFor new v in subst P own adds.own
  ];
  in_order = adds.in_order;
}

-- ---- the order in which they were brought

pub numbers_moved : (brought sorted numbers : List Token) → IsPermutation brought sorted → AreNumbers sorted numbers → AreNumbers brought numbers
numbers_moved brought sorted numbers moved h = record {
  each = λ t a. among_moved sorted brought t (IsPermutation-sym brought sorted moved) (h.each t a);
  all = λ t a. h.all t (among_moved brought sorted t moved a);
  in_order = h.in_order;
}
