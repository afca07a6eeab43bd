-- Origins that are whole added tokens, token for token.
use Rattle.std.proofs.Common.{◌≡◌, ℕ, ◌+◌, ◌-◌, ◌<◌, ◌≤◌, ◌^◌, true, List, [], ◌∷◌, ◌++◌, zero, suc, length, length-drop, drop, refl, ap, sym, ◌∙◌, inl, inr, arith, subst, Option, Some, None}
use Rattle.std.specs.Prelude.{slice_get}
use Rattle.std.specs.List.{flat_map}
use Rattle.std.specs.Option.{option_and_then}
use Rattle.std.proofs.lemmas.Bool.{cases_eq, cases_lt, both_ways}
use Rattle.std.proofs.lemmas.Option.{none-some, same_Some}
use Rattle.cs_base.specs.declared.positions.Pos.{Pos}
use Rattle.cs_base.specs.declared.positions.Part.{Part}
use Rattle.cs_base.specs.Token.{Token, origin_at}
use Rattle.cs_base.proofs.ListLemmas.{at_drop, below_length, drop-some as drop_at}
use Rattle.eclass_map.specs.declared.token_list.Added.{Added}
use Rattle.eclass_map.specs.Positions.{along, begins_by, AreTokens}
use Rattle.eclass_map.specs.ClassTable.{positions, AreWhole}
use Rattle.eclass_map.specs.Wholeness.{of_tokens, IsIn, LiesAt}
use Rattle.class_labels.proofs.ListFacts.{was_at, now_at}
use Rattle.eclass_map.proofs.TokenFacts.{Halved, holds_along, begun_where_held, not_held_before}
use Rattle.eclass_map.proofs.WholeFacts.{start_along as along_none}

-- ---- lists of origins

along_more : (p : Pos) (o : ℕ) → along p (suc o) ≡ along (along p 1) o
along_more p o = let e : p.at + suc o ≡ p.at + 1 + o = omega arith in λ i. record { file = p.file; at = e i }

-- from character k on the origins are so many positions, and the rest
from_positions : (os : List (Option Pos)) (n k : ℕ) (p : Pos) → ((o : ℕ) → o < n → slice_get os (k + o) ≡ Some (Some (along p o))) → drop k os ≡ positions p n ++ drop (k + n) os
from_positions os zero k p h = let e : k ≡ k + 0 = omega arith in ap (λ v. drop v os) e
from_positions os (suc n) k p h =
    let P : ℕ → Type 0 = λ v. slice_get os v ≡ Some (Some (along p 0)) in
    let here : k + 0 ≡ k = omega arith in
    let first : slice_get os k ≡ Some (Some p) = subst P here (h 0 (omega arith)) ∙ ap (λ v. Some (Some v)) (along_none p) in
    let rest = from_positions os n (k + 1) (along p 1) (λ o less.
    let e : k + 1 + o ≡ k + suc o = omega arith in
    ap (slice_get os) e ∙ h (suc o) (omega arith) ∙ ap (λ v. Some (Some v)) (along_more p o)) in
    let e : k + 1 + n ≡ k + suc n = omega arith in
    drop_at os k (Some p) first ∙ ap (λ v. Some p ∷ v) (rest ∙ ap (λ v. positions (along p 1) n ++ drop v os) e)

at_positions : (n : ℕ) (p : Pos) (rest : List (Option Pos)) (o : ℕ) → o < n → slice_get (positions p n ++ rest) o ≡ Some (Some (along p o))
at_positions zero p rest o less = absurd (omega arith)
at_positions (suc n) p rest zero less = ap (λ v. Some (Some v)) (sym (along_none p))
at_positions (suc n) p rest (suc o) less = at_positions n (along p 1) rest o (omega arith) ∙ ap (λ v. Some (Some v)) (sym (along_more p o))

same_rest : {A : Type 0} (xs ys zs : List A) → xs ++ ys ≡ xs ++ zs → ys ≡ zs
same_rest [] ys zs e = e
same_rest (x ∷ xs) ys zs e = same_rest xs ys zs (cc)

-- ---- tokens of a list

-- the entry of a token
record EntryOf (tokens : List Added) (token : Part) : Type 0 where
  index : ℕ
  entry : Added
  at : slice_get tokens index ≡ Some entry
  is : entry.place ≡ token

entry_in : (tokens : List Added) (token : Part) → IsIn tokens token → EntryOf tokens token
entry_in tokens token is = let w = was_at (λ (r : Added). r.place) tokens is.0 token is.1 in record { index = is.0; entry = w.was; at = w.at; is = w.is }

pub some_in : (tokens : List Added) (token : Part) → AreTokens tokens → IsIn tokens token → 0 < token.len
some_in tokens token are is =
    let e = entry_in tokens token is in
    let P : Part → Type 0 = λ v. 0 < v.len in
    subst P e.is (are.some e.index e.entry e.at)

pub fits_in : (tokens : List Added) (token : Part) → ((k : ℕ) (r : Added) → slice_get tokens k ≡ Some r → r.place.start.at + r.place.len < 2 ^ 32) → IsIn tokens token → token.start.at + token.len < 2 ^ 32
fits_in tokens token fits is =
    let e = entry_in tokens token is in
    let P : Part → Type 0 = λ v. v.start.at + v.len < 2 ^ 32 in
    subst P e.is (fits e.index e.entry e.at)

pub entry_is_in : (tokens : List Added) (k : ℕ) (r : Added) → slice_get tokens k ≡ Some r → IsIn tokens r.place
entry_is_in tokens k r at = (k, now_at (λ (r : Added). r.place) tokens k r at)

-- no other token begins before a token in order
apart_from : (tokens : List Added) (i j : ℕ) (r s : Added) → AreTokens tokens → slice_get tokens i ≡ Some r → slice_get tokens j ≡ Some s → r.place.start ≡ s.place.start → i < j → ⊥
apart_from tokens i j r s are at_i at_j e less =
    let some = are.some i r at_i in
    let file : r.place.start.file ≡ s.place.start.file = ap (λ (p : Pos). p.file) e in
    let from : r.place.start.at ≡ s.place.start.at = ap (λ (p : Pos). p.at) e in
    elim (are.ordered i j r s less at_i at_j) [ inl f ↦ omega arith | inr f ↦ let g = f.1 in omega arith ]

same_entry : (tokens : List Added) (i j : ℕ) (r s : Added) → AreTokens tokens → slice_get tokens i ≡ Some r → slice_get tokens j ≡ Some s → r.place.start ≡ s.place.start → r ≡ s
same_entry tokens i j r s are at_i at_j e = elim (cases_eq i j) [
  | inl same ↦ same_Some r s (sym at_i ∙ ap (slice_get tokens) same ∙ at_j)
  | inr ne ↦ elim (cases_lt i j) [
    | inl less ↦ absurd (apart_from tokens i j r s are at_i at_j e less)
    | inr most ↦ absurd (apart_from tokens j i s r are at_j at_i (sym e) (omega arith))
  ]
]

-- tokens with one beginning are the same
same_token : (tokens : List Added) (a b : Part) → AreTokens tokens → IsIn tokens a → IsIn tokens b → a.start ≡ b.start → a ≡ b
same_token tokens a b are in_a in_b e =
    let u = entry_in tokens a in_a in
    let v = entry_in tokens b in_b in
    let starts : u.entry.place.start ≡ v.entry.place.start = ap (λ (p : Part). p.start) u.is ∙ e ∙ ap (λ (p : Part). p.start) (sym v.is) in
    sym u.is ∙ ap (λ (r : Added). r.place) (same_entry tokens u.index v.index u.entry v.entry are u.at v.at starts) ∙ v.is

-- ---- a search for a beginning

pub no_beginning : (tokens : List Added) (p : Pos) (count : ℕ) → AreTokens tokens → Halved tokens p count → count ≤ 0 → (token : Part) → IsIn tokens token → token.start ≡ p → ⊥
no_beginning tokens p count are h none token is e =
    let u = entry_in tokens token is in
    let start : along u.entry.place.start 0 ≡ p = along_none u.entry.place.start ∙ ap (λ (v : Part). v.start) u.is ∙ e in
    let P : Pos → Type 0 = λ v. begins_by u.entry v ≡ true in
    let begins = subst P start (begun_where_held u.entry (along u.entry.place.start 0) (holds_along u.entry.place 0 (are.some u.index u.entry u.at))) in
    both_ways (begins_by u.entry p) (h.behind u.index u.entry (omega arith) u.at) begins

pub other_beginning : (tokens : List Added) (p : Pos) (count : ℕ) (r : Added) → AreTokens tokens → Halved tokens p count → 0 < count → slice_get tokens (count - 1) ≡ Some r → (r.place.start ≡ p → ⊥) → (token : Part) → IsIn tokens token → token.start ≡ p → ⊥
other_beginning tokens p count r are h some at other token is e =
    let u = entry_in tokens token is in
    let begun : u.entry.place.start ≡ p = ap (λ (v : Part). v.start) u.is ∙ e in
    let start : along u.entry.place.start 0 ≡ p = along_none u.entry.place.start ∙ begun in
    let P : Pos → Type 0 = λ v. begins_by u.entry v ≡ true in
    let held = holds_along u.entry.place 0 (are.some u.index u.entry u.at) in
    let Q : Pos → Type 0 = λ v. begins_by r v ≡ true in
    elim (cases_lt u.index count) [
      | inl less ↦ elim (cases_eq u.index (count - 1)) [
        | inl same ↦
            let one : u.entry ≡ r = same_Some u.entry r (sym u.at ∙ ap (slice_get tokens) same ∙ at) in
            other (sym (ap (λ (v : Added). v.place.start) one) ∙ begun)
        | inr ne ↦ not_held_before u.entry r (along u.entry.place.start 0) (are.ordered u.index (count - 1) u.entry r (omega arith) u.at at) (subst Q (sym start) (h.before (count - 1) r (omega arith) at)) held
      ]
      | inr most ↦ both_ways (begins_by u.entry p) (h.behind u.index u.entry most u.at) (subst P start (begun_where_held u.entry (along u.entry.place.start 0) held))
    ]

-- ---- what lies at a place of the origins

-- the first origin of what lies there
pub lies_first : (os : List (Option Pos)) (k : ℕ) (part : Part) → 0 < part.len → LiesAt os k part → slice_get os k ≡ Some (Some part.start)
lies_first os k part some lies =
    let e : k ≡ k + 0 = omega arith in
    ap (slice_get os) e ∙ lies 0 some ∙ ap (λ v. Some (Some v)) (along_none part.start)

pub lies_within : (os : List (Option Pos)) (k : ℕ) (part : Part) → 0 < part.len → LiesAt os k part → k + part.len ≤ length os
lies_within os k part some lies =
    let last = below_length os (k + (part.len - 1)) (Some (along part.start (part.len - 1))) (lies (part.len - 1) (omega arith)) in
    omega arith

lies_from : (os : List (Option Pos)) (k : ℕ) (part : Part) (rest : List (Option Pos)) → drop k os ≡ positions part.start part.len ++ rest → LiesAt os k part
lies_from os k part rest e = λ o less. sym (at_drop os k o) ∙ ap (λ v. slice_get v o) e ∙ at_positions part.len part.start rest o less

-- no token lies at a place where another character stands, or none
pub lies_nowhere : (tokens : List Added) (os : List (Option Pos)) (k : ℕ) (start : Pos) → AreTokens tokens → slice_get os k ≡ Some (Some start) → ((token : Part) → IsIn tokens token → token.start ≡ start → ⊥)
    → (token : Part) → IsIn tokens token → LiesAt os k token → ⊥
lies_nowhere tokens os k start are at none token is lies =
    let first = lies_first os k token (some_in tokens token are is) lies in
    none token is (same_Some token.start start (same_Some (Some token.start) (Some start) (sym first ∙ at)))

-- nor any but the one that begins there
pub lies_not : (tokens : List Added) (os : List (Option Pos)) (k : ℕ) (start : Pos) (found : Part) → AreTokens tokens → slice_get os k ≡ Some (Some start) → IsIn tokens found → found.start ≡ start
    → (LiesAt os k found → ⊥) → (token : Part) → IsIn tokens token → LiesAt os k token → ⊥
lies_not tokens os k start found are at is_found begins not_found token is lies =
    let first = lies_first os k token (some_in tokens token are is) lies in
    let starts : token.start ≡ start = same_Some token.start start (same_Some (Some token.start) (Some start) (sym first ∙ at)) in
    let P : Part → Type 0 = λ v. LiesAt os k v in
    not_found (subst P (same_token tokens token found are is is_found (starts ∙ sym begins)) lies)

-- ---- the origin of a character

pub no_origin : (tokens : List Added) (t : Token) (k : ℕ) (o : Option Pos) → AreTokens tokens → o ≡ origin_at t k → o ≡ None → (token : Part) → IsIn tokens token → LiesAt t.origins k token → ⊥
no_origin tokens t k o are e f token is lies =
    let first = lies_first t.origins k token (some_in tokens token are is) lies in
    let told : origin_at t k ≡ Some token.start = ap (λ v. option_and_then (λ origin. origin) v) first in
    none-some token.start (sym f ∙ e ∙ told)

-- ---- whole tokens from a place on

each_in : (tokens : List Added) (token : Part) (ts : List Part) → IsIn tokens token → ((k : ℕ) (u : Part) → slice_get ts k ≡ Some u → IsIn tokens u)
    → (k : ℕ) (u : Part) → slice_get (token ∷ ts) k ≡ Some u → IsIn tokens u
each_in tokens token ts is rest zero u at = let P : Part → Type 0 = λ v. IsIn tokens v in subst P (same_Some token u at) is
each_in tokens token ts is rest (suc k) u at = rest k u at

pub whole_back : (tokens : List Added) (os : List (Option Pos)) (k : ℕ) (token : Part) → IsIn tokens token → LiesAt os k token → AreWhole (of_tokens tokens) (drop (k + token.len) os) → AreWhole (of_tokens tokens) (drop k os)
whole_back tokens os k token is lies w =
    record {
      tokens = token ∷ w.tokens;
      added = each_in tokens token w.tokens is w.added;
      each = from_positions os token.len k token.start lies ∙ ap (λ v. positions token.start token.len ++ v) w.each;
    }

on_by : (tokens : List Added) (os : List (Option Pos)) (k : ℕ) (token : Part) → AreTokens tokens → IsIn tokens token → LiesAt os k token
    → (ts : List Part) → ((j : ℕ) (u : Part) → slice_get ts j ≡ Some u → IsIn tokens u) → drop k os ≡ flat_map (λ (u : Part). positions u.start u.len) ts
    → AreWhole (of_tokens tokens) (drop (k + token.len) os)
on_by tokens os k token are is lies [] each e =
    let first = drop_at os k (Some token.start) (lies_first os k token (some_in tokens token are is) lies) in absurd (cc)
on_by tokens os k token are is lies (u ∷ us) each e =
    let rest = flat_map (λ (v : Part). positions v.start v.len) us in
    let is_u = each 0 u refl in
    let first = lies_first os k token (some_in tokens token are is) lies in
    let also = lies_first os k u (some_in tokens u are is_u) (lies_from os k u rest e) in
    let starts : u.start ≡ token.start = same_Some u.start token.start (same_Some (Some u.start) (Some token.start) (sym also ∙ first)) in
    let same : u ≡ token = same_token tokens u token are is_u is starts in
    let left : positions token.start token.len ++ rest ≡ positions token.start token.len ++ drop (k + token.len) os =
    ap (λ (v : Part). positions v.start v.len ++ rest) (sym same) ∙ sym e ∙ from_positions os token.len k token.start lies in
    record {
      tokens = us;
      added = λ j v at. each (suc j) v at;
      each = sym (same_rest (positions token.start token.len) rest (drop (k + token.len) os) left);
    }

pub whole_on : (tokens : List Added) (os : List (Option Pos)) (k : ℕ) (token : Part) → AreTokens tokens → IsIn tokens token → LiesAt os k token → AreWhole (of_tokens tokens) (drop k os) → AreWhole (of_tokens tokens) (drop (k + token.len) os)
whole_on tokens os k token are is lies w = on_by tokens os k token are is lies w.tokens w.added w.each

none_by : (tokens : List Added) (os : List (Option Pos)) (k : ℕ) → k < length os → ((token : Part) → IsIn tokens token → LiesAt os k token → ⊥)
    → (ts : List Part) → ((j : ℕ) (u : Part) → slice_get ts j ≡ Some u → IsIn tokens u) → drop k os ≡ flat_map (λ (u : Part). positions u.start u.len) ts → ⊥
none_by tokens os k below none [] each e = let long = length-drop k os in let same : length (drop k os) ≡ 0 = ap length e in omega arith
none_by tokens os k below none (u ∷ us) each e = none u (each 0 u refl) (lies_from os k u (flat_map (λ (v : Part). positions v.start v.len) us) e)

-- no token lies where the rest begins
pub whole_never : (tokens : List Added) (os : List (Option Pos)) (k : ℕ) → k < length os → ((token : Part) → IsIn tokens token → LiesAt os k token → ⊥) → AreWhole (of_tokens tokens) (drop k os) → ⊥
whole_never tokens os k below none w = none_by tokens os k below none w.tokens w.added w.each
