-- Positions as runs of neighbours.
use Rattle.std.proofs.Common.{◌≡◌, ℕ, ◌+◌, ◌-◌, ◌<◌, ◌≤◌, ◌^◌, List, [], ◌∷◌, ◌++◌, zero, suc, length, get_or, drop, refl, ap, sym, subst, ◌∙◌, arith, append_assoc, length-append, Some, inl, inr}
use Rattle.std.specs.Prelude.{slice_get}
use Rattle.std.proofs.lemmas.List.{append-nil, drop_all}
use Rattle.std.proofs.lemmas.Bool.{cases_lt}
use Rattle.std.proofs.lemmas.Option.{get_or_from_slice_get, slice_get_within}
use Rattle.cs_base.specs.declared.positions.Pos.{Pos}
use Rattle.cs_base.proofs.ListLemmas.{get-front as slice_get-append_left}
use Rattle.eclass_map.specs.declared.places.Run.{Run}
use Rattle.eclass_map.specs.declared.token_list.Added.{Added}
use Rattle.eclass_map.specs.Positions.{along}
use Rattle.eclass_map.specs.ClassTable.{fresh_places, nowhere}
use Rattle.eclass_map.specs.Places.{no_run, next_first, places_of, AreRuns}
use Rattle.class_labels.proofs.AddFacts.{slice_get-append_right}
use Rattle.eclass_map.proofs.InsertFacts.{fresh_places_none, fresh_places_more, fresh_places-at, length-fresh_places}

pub length-places_of : (from n : ℕ) (runs : List Run) → AreRuns from runs n → length (places_of runs n) + from ≡ n
length-places_of from n [] are = omega (arith, are)
length-places_of from n (r ∷ runs) are =
    let m = next_first runs n in
    let rest = length-places_of m n runs are.3 in
    let both : length (fresh_places r.start (m - r.first) ++ places_of runs n) ≡ length (fresh_places r.start (m - r.first)) + length (places_of runs n) =
    length-append (fresh_places r.start (m - r.first)) (places_of runs n) in
    let here = length-fresh_places r.start (m - r.first) in
    let first = are.0 in
    let some = are.1 in
    omega (arith, rest, both, here, first, some)

-- a run more
next_pushed : (runs : List Run) (r : Run) (n m : ℕ) → r.first ≡ n → next_first (runs ++ r ∷ []) m ≡ next_first runs n
next_pushed [] r n m e = e
next_pushed (s ∷ runs) r n m e = refl

pub places_of-pushed : (runs : List Run) (r : Run) (n len : ℕ) → r.first ≡ n → places_of (runs ++ r ∷ []) (n + len) ≡ places_of runs n ++ fresh_places r.start len
places_of-pushed [] r n len e =
    let long : n + len - r.first ≡ len = omega (arith, e) in
    append-nil (fresh_places r.start (n + len - r.first)) ∙ ap (fresh_places r.start) long
places_of-pushed (s ∷ runs) r n len e =
    ap (λ v. fresh_places s.start (v - s.first) ++ places_of (runs ++ r ∷ []) (n + len)) (next_pushed runs r n (n + len) e)
    ∙ ap (λ v. fresh_places s.start (next_first runs n - s.first) ++ v) (places_of-pushed runs r n len e)
    ∙ sym (append_assoc (fresh_places s.start (next_first runs n - s.first)) (places_of runs n) (fresh_places r.start len))

pub runs_pushed : (from n len : ℕ) (runs : List Run) (r : Run) → AreRuns from runs n → r.first ≡ n → r.start.at + len ≤ 2 ^ 32 → AreRuns from (runs ++ r ∷ []) (n + len)
runs_pushed from n len [] r are e fits =
    let long : n + len - from ≡ len = omega (arith, are) in
    (e ∙ sym are, omega (arith, are), omega (arith, long, fits), refl)
runs_pushed from n len (s ∷ runs) r are e fits =
    let P : ℕ → Type 0 = λ v. (s.first ≡ from) × (from ≤ v) × (s.start.at + (v - from) ≤ 2 ^ 32) × AreRuns v (runs ++ r ∷ []) (n + len) in
    subst P (sym (next_pushed runs r n (n + len) e)) (are.0, are.1, are.2, runs_pushed (next_first runs n) n len runs r are.3 e fits)

-- ---- the run of a character

first_least : (from n k : ℕ) (runs : List Run) → AreRuns from runs n → k < length runs → from ≤ (get_or runs k no_run).first
first_least from n k [] are within = absurd (omega arith)
first_least from n zero (r ∷ runs) are within = let first = are.0 in omega (arith, first)
first_least from n (suc k) (r ∷ runs) are within =
    let rest = first_least (next_first runs n) n k runs are.3 (omega (arith, within)) in
    let some = are.1 in
    omega (arith, rest, some)

pub begins_first : (n x : ℕ) (runs : List Run) → AreRuns 0 runs n → x < n → (0 < length runs) × ((get_or runs 0 no_run).first ≤ x)
begins_first n x [] are held = absurd (omega (arith, are, held))
begins_first n x (r ∷ runs) are held = let first = are.0 in (omega arith, omega (arith, first))

pub next_at : (runs : List Run) (k n : ℕ) → k < length runs → next_first (drop k runs) n ≡ (get_or runs k no_run).first
next_at [] k n within = absurd (omega (arith, within))
next_at (r ∷ runs) zero n within = refl
next_at (r ∷ runs) (suc k) n within = next_at runs k n (omega (arith, within))

pub next_end : (runs : List Run) (k n : ℕ) → length runs ≤ k → next_first (drop k runs) n ≡ n
next_end runs k n past = ap (λ v. next_first v n) (drop_all k runs past)

-- what is known of a run
record InRun (from n k x : ℕ) (runs : List Run) : Type 0 where
  at : slice_get (places_of runs n) (x - from) ≡ Some (along (get_or runs k no_run).start (x - (get_or runs k no_run).first))
  fits : (get_or runs k no_run).start.at + (x - (get_or runs k no_run).first) < 2 ^ 32

in_run : (from n k x : ℕ) (runs : List Run) → AreRuns from runs n → k < length runs → (get_or runs k no_run).first ≤ x → x < next_first (drop (suc k) runs) n
    → InRun from n k x runs
in_run from n k x [] are within begun last = absurd (omega arith)
in_run from n zero x (r ∷ runs) are within begun last =
    let m = next_first runs n in
    let first = are.0 in
    let fits = are.2 in
    let less : x - from < m - r.first = omega (arith, first, begun, last) in
    let same : x - from ≡ x - r.first = omega (arith, first) in
    record {
      at =
          slice_get-append_left (fresh_places r.start (m - r.first)) (places_of runs n) (x - from) (omega (arith, less, length-fresh_places r.start (m - r.first)))
          ∙ fresh_places-at r.start (m - r.first) (x - from) less
          ∙ ap (λ v. Some (along r.start v)) same;
      fits = omega (arith, first, begun, last, fits);
    }
in_run from n (suc k) x (r ∷ runs) are within begun last =
    let m = next_first runs n in
    let first = are.0 in
    let some = are.1 in
    let inside : k < length runs = omega (arith, within) in
    let least = first_least m n k runs are.3 inside in
    let rest = in_run m n k x runs are.3 inside begun last in
    let there : x - from ≡ length (fresh_places r.start (m - r.first)) + (x - m) = omega (arith, first, some, least, begun, length-fresh_places r.start (m - r.first)) in
    record {
      at = slice_get-append_right (fresh_places r.start (m - r.first)) (places_of runs n) (x - from) (x - m) there ∙ rest.at;
      fits = rest.fits;
    }

by_one : (runs : List Run) (k n x : ℕ) → x < next_first (drop (k + 1) runs) n → x < next_first (drop (suc k) runs) n
by_one runs k n x last =
    let e : k + 1 ≡ suc k = omega arith in
    let P : ℕ → Type 0 = λ v. x < next_first (drop v runs) n in
    subst P e last

pub at_run : (n k x : ℕ) (runs : List Run) → AreRuns 0 runs n → k < length runs → (get_or runs k no_run).first ≤ x → x < next_first (drop (k + 1) runs) n
    → along (get_or runs k no_run).start (x - (get_or runs k no_run).first) ≡ get_or (places_of runs n) x nowhere
at_run n k x runs are within begun last =
    let e : x - 0 ≡ x = omega arith in
    let run = in_run 0 n k x runs are within begun (by_one runs k n x last) in
    sym (get_or_from_slice_get (places_of runs n) x _ nowhere (ap (slice_get (places_of runs n)) (sym e) ∙ run.at))

pub fits_run : (n k x : ℕ) (runs : List Run) → AreRuns 0 runs n → k < length runs → (get_or runs k no_run).first ≤ x → x < next_first (drop (k + 1) runs) n
    → (get_or runs k no_run).start.at + (x - (get_or runs k no_run).first) < 2 ^ 32
fits_run n k x runs are within begun last = (in_run 0 n k x runs are within begun (by_one runs k n x last)).fits

-- ---- one position

pub fresh_one : (p : Pos) → fresh_places p 1 ≡ p ∷ []
fresh_one p =
    let e : p.at + 0 ≡ p.at = omega arith in
    fresh_places_more p 0 ∙ ap (λ v. v ++ along p 0 ∷ []) (fresh_places_none p) ∙ (λ i. record { file = p.file; at = e i } ∷ [])

-- ---- a run for each token

-- the positions of the first n tokens stand in the list
abbrev pub ArePlacedTo : ℕ → List Added → List Pos → Type 0
ArePlacedTo n tokens places = (k : ℕ) (r : Added) (o : ℕ) → k < n → slice_get tokens k ≡ Some r → o < r.place.len
    → slice_get places (r.first + o) ≡ Some (along r.place.start o)

-- those of the next one too, where its characters have the numbers that come next
pub placed_more : (n : ℕ) (t : Added) (tokens : List Added) (places : List Pos) → ArePlacedTo n tokens places → slice_get tokens n ≡ Some t
    → t.first ≡ length places → ArePlacedTo (n + 1) tokens (places ++ fresh_places t.place.start t.place.len)
placed_more n t tokens places before here first k r o below at within = elim (cases_lt k n) [
  | inl less ↦
      let was = before k r o less at within in
      slice_get-append_left places (fresh_places t.place.start t.place.len) (r.first + o) (slice_get_within places (r.first + o) _ was) ∙ was
  | inr least ↦
      let last : k ≡ n = omega (arith, least, below) in
      let P : Added → Type 0 = λ v. slice_get (places ++ fresh_places t.place.start t.place.len) (v.first + o) ≡ Some (along v.place.start o) in
      let is : Some t ≡ Some r = sym here ∙ ap (slice_get tokens) (sym last) ∙ at in
      let same : t ≡ r = cc in
      let Q : Added → Type 0 = λ v. o < v.place.len in
      let inside : o < t.place.len = subst Q (sym same) within in
      subst P same (slice_get-append_right places (fresh_places t.place.start t.place.len) (t.first + o) o (omega (arith, first))
      ∙ fresh_places-at t.place.start t.place.len o inside)
]
