-- A cut falls into parts where no list goes on from one to the other.
use Rattle.std.proofs.Common.{◌≡◌, ℕ, ◌+◌, ◌-◌, ◌<◌, ◌≤◌, Bool, true, false, cond, List, [], ◌++◌, length, take, drop, refl, ap, sym, ◌∙◌, arith, append_assoc, length-drop}
use Rattle.std.specs.Prelude.{nat_le, ◌==◌, ◌&&◌, ◌||◌}
use Rattle.std.proofs.lemmas.Bool.{le-leb, lt-leb, leb-true, leb-false, eqb-true}
use Rattle.std.proofs.lemmas.List.{nil_from_length, take-append-le, drop-append-le}
use Rattle.std.proofs.Math.Seq.{take-append-add, drop-append-add}
use Rattle.cs_base.proofs.BoolLemmas.{or_last as or_right}
use Rattle.list_cuts.specs.Cuts.{Cut, done, keep, list, Items, span_of, picked, woven, gaps_of, arranged, items_of, AreOf}
use Rattle.list_cuts.specs.CutOf.{front, back, is_between}
use Rattle.expansion_laws.specs.Arranging.{in_lists}
use Rattle.list_cuts.proofs.CutLemmas.{gaps_of-append, items_of-append}

pub or_false : (b c : Bool) → b ≡ false → (b || c) ≡ true → c ≡ true
or_false true c h k = absurd cc
or_false false c h k = k

pub or_none : (b c : Bool) → (b || c) ≡ false → (b ≡ false) × (c ≡ false)
or_none true c h = absurd cc
or_none false c h = (refl, h)

pub and_rest : (b c : Bool) → b ≡ true → (b && c) ≡ false → c ≡ false
and_rest true c h k = k
and_rest false c h k = absurd cc

pub of_front : (n m : ℕ) (c : Cut) → AreOf n c → AreOf n (front m c)
unfolding front
of_front n m done of = tt
of_front n m (keep k c) of = by (nat_le m k) (of_front n (m - k) c of)
  where
    by : (b : Bool) → AreOf n (front (m - k) c) → AreOf n (cond b done (keep k (front (m - k) c)))
    by true h = tt
    by false h = h
of_front n m (list is c) of = by (nat_le (span_of is) m) (of_front n (m - span_of is) c of.2)
  where
    by : (b : Bool) → AreOf n (front (m - span_of is) c) → AreOf n (cond b (list is (front (m - span_of is) c)) done)
    by true h = (of.0, of.1, h)
    by false h = tt

-- ---- the parts of a part

-- a part of what is behind
abbrev Behind : ℕ → ℕ → Cut → Type 0
Behind b n c = (back (b + n) c ≡ back n (back b c)) × (is_between (b + n) c ≡ true → is_between n (back b c) ≡ true)

keep_behind : (b n k : ℕ) (c : Cut) → (is_between (b - k) c ≡ true → Behind (b - k) n c) → is_between b (keep k c) ≡ true → (x : Bool) → nat_le b k ≡ x
    → (back (b + n) (keep k c) ≡ back n (cond x (keep (k - b) c) (back (b - k) c))) × (is_between (b + n) (keep k c) ≡ true → is_between n (cond x (keep (k - b) c) (back (b - k) c)) ≡ true)
unfolding back is_between
keep_behind b n k c later h true x_is = by (nat_le (b + n) k) refl
  where
    le : b ≤ k
    le = leb-true b k x_is

    by : (y : Bool) → nat_le (b + n) k ≡ y
        → (back (b + n) (keep k c) ≡ back n (keep (k - b) c)) × (is_between (b + n) (keep k c) ≡ true → is_between n (keep (k - b) c) ≡ true)
    by true y_is =
        let le2 : n ≤ k - b = omega (arith, leb-true (b + n) k y_is, le) in
        let same : k - (b + n) ≡ k - b - n = omega (arith, le) in
        (rw (y_is, le-leb n (k - b) le2, same) refl, λ e. rw (le-leb n (k - b) le2) refl)
    by false y_is =
        let lt : k < b + n = leb-false (b + n) k y_is in
        let far : k - b < n = omega (arith, lt, le) in
        let same : b + n - k ≡ n - (k - b) = omega (arith, lt, le) in (
          rw (y_is, lt-leb n (k - b) far, same) refl,
          λ e. or_right (nat_le n (k - b)) (is_between (n - (k - b)) c) (ap (λ (i : ℕ). is_between i c) (sym same) ∙ or_false (nat_le (b + n) k) (is_between (b + n - k) c) y_is e),
        )
keep_behind b n k c later h false x_is =
    let lt : k < b = leb-false b k x_is in
    let deep = later (or_false (nat_le b k) (is_between (b - k) c) x_is h) in
    let past : nat_le (b + n) k ≡ false = lt-leb (b + n) k (omega (arith, lt)) in
    let same : b + n - k ≡ b - k + n = omega (arith, lt) in (
      ap (λ (y : Bool). cond y (keep (k - (b + n)) c) (back (b + n - k) c)) past ∙ ap (λ (i : ℕ). back i c) same ∙ deep.0,
      λ e. deep.1 (ap (λ (i : ℕ). is_between i c) (sym same) ∙ or_false (nat_le (b + n) k) (is_between (b + n - k) c) past e),
    )

list_behind : (b n : ℕ) (is : Items) (c : Cut) → (is_between (b - span_of is) c ≡ true → Behind (b - span_of is) n c) → (x : Bool) → nat_le (span_of is) b ≡ x
    → cond x (is_between (b - span_of is) c) (b == 0) ≡ true
    → (back (b + n) (list is c) ≡ back n (cond x (back (b - span_of is) c) (list is c))) × (is_between (b + n) (list is c) ≡ true → is_between n (cond x (back (b - span_of is) c) (list is c)) ≡ true)
unfolding back is_between
list_behind b n is c later true x_is h =
    let le : span_of is ≤ b = leb-true (span_of is) b x_is in
    let deep = later h in
    let there : nat_le (span_of is) (b + n) ≡ true = le-leb (span_of is) (b + n) (omega (arith, le)) in
    let same : b + n - span_of is ≡ b - span_of is + n = omega (arith, le) in (
      ap (λ (y : Bool). cond y (back (b + n - span_of is) c) (list is c)) there ∙ ap (λ (i : ℕ). back i c) same ∙ deep.0,
      λ e. deep.1 (ap (λ (i : ℕ). is_between i c) (sym same) ∙ sym (ap (λ (y : Bool). cond y (is_between (b + n - span_of is) c) (b + n == 0)) there) ∙ e),
    )
list_behind b n is c later false x_is h =
    let none : b ≡ 0 = eqb-true b 0 h in
    let same : b + n ≡ n = omega (arith, none) in
    (ap (λ (i : ℕ). back i (list is c)) same, λ e. ap (λ (i : ℕ). is_between i (list is c)) (sym same) ∙ e)

pub behind : (b n : ℕ) (c : Cut) → is_between b c ≡ true → Behind b n c
unfolding back is_between
behind b n done h = (refl, λ e. refl)
behind b n (keep k c) h = keep_behind b n k c (behind (b - k) n c) h (nat_le b k) refl
behind b n (list is c) h = list_behind b n is c (behind (b - span_of is) n c) (nat_le (span_of is) b) refl h

-- ---- the first part, and what is behind it

short : {X : Type 0} (k n : ℕ) (xs : List X) → length xs ≡ n → length (drop k xs) ≡ n - k
short k n xs e = length-drop k xs ∙ ap (λ (i : ℕ). i - k) e

-- the first part in the new order, and then the rest
abbrev FallsAt : {X : Type 0} → List ℕ → ℕ → Cut → List X → List X → Type 0
FallsAt order n c xs rest = arranged order c (xs ++ rest) ≡ arranged order (front n c) xs ++ arranged order (back n c) rest

keep_falls : {X : Type 0} (order : List ℕ) (n k : ℕ) (c : Cut) (xs rest : List X) → length xs ≡ n
    → (is_between (n - k) c ≡ true → FallsAt order (n - k) c (drop k xs) rest) → is_between n (keep k c) ≡ true → (x : Bool) → nat_le n k ≡ x
    → arranged order (keep k c) (xs ++ rest) ≡ arranged order (cond x done (keep k (front (n - k) c))) xs ++ arranged order (cond x (keep (k - n) c) (back (n - k) c)) rest
unfolding arranged is_between
keep_falls order n k c xs rest long later h true x_is =
    let le : n ≤ k = leb-true n k x_is in
    let all : k ≡ length xs + (k - n) = omega (arith, le, long) in
    ap (λ (i : ℕ). take i (xs ++ rest) ++ arranged order c (drop i (xs ++ rest))) all
    ∙ ap (λ (l : List _). l ++ arranged order c (drop (length xs + (k - n)) (xs ++ rest))) (take-append-add xs rest (k - n))
    ∙ ap (λ (l : List _). (xs ++ take (k - n) rest) ++ arranged order c l) (drop-append-add xs rest (k - n))
    ∙ append_assoc xs (take (k - n) rest) (arranged order c (drop (k - n) rest))
keep_falls order n k c xs rest long later h false x_is =
    let lt : k < n = leb-false n k x_is in
    let within : k ≤ length xs = omega (arith, lt, long) in
    let deep = later (or_false (nat_le n k) (is_between (n - k) c) x_is h) in
    ap (λ (l : List _). l ++ arranged order c (drop k (xs ++ rest))) (take-append-le k xs rest within)
    ∙ ap (λ (l : List _). take k xs ++ arranged order c l) (drop-append-le k xs rest within)
    ∙ ap (λ (l : List _). take k xs ++ l) deep
    ∙ sym (append_assoc (take k xs) (arranged order (front (n - k) c) (drop k xs)) (arranged order (back (n - k) c) rest))

list_falls : {X : Type 0} (order : List ℕ) (n : ℕ) (is : Items) (c : Cut) (xs rest : List X) → length xs ≡ n
    → (is_between (n - span_of is) c ≡ true → FallsAt order (n - span_of is) c (drop (span_of is) xs) rest) → (x : Bool) → nat_le (span_of is) n ≡ x
    → cond x (is_between (n - span_of is) c) (n == 0) ≡ true
    → arranged order (list is c) (xs ++ rest) ≡ arranged order (cond x (list is (front (n - span_of is) c)) done) xs ++ arranged order (cond x (back (n - span_of is) c) (list is c)) rest
unfolding arranged
list_falls order n is c xs rest long later true x_is h =
    let within : span_of is ≤ length xs = omega (arith, leb-true (span_of is) n x_is, long) in
    let deep = later h in
    let first : List _ = woven (picked order (items_of order is xs)) (gaps_of is xs) in
    ap (λ (l : List (List _)). woven (picked order l) (gaps_of is (xs ++ rest)) ++ arranged order c (drop (span_of is) (xs ++ rest))) (items_of-append order is xs rest within)
    ∙ ap (λ (l : List (List _)). woven (picked order (items_of order is xs)) l ++ arranged order c (drop (span_of is) (xs ++ rest))) (gaps_of-append is xs rest within)
    ∙ ap (λ (l : List _). first ++ arranged order c l) (drop-append-le (span_of is) xs rest within)
    ∙ ap (λ (l : List _). first ++ l) deep
    ∙ sym (append_assoc first (arranged order (front (n - span_of is) c) (drop (span_of is) xs)) (arranged order (back (n - span_of is) c) rest))
list_falls order n is c xs rest long later false x_is h =
    let none : n ≡ 0 = eqb-true n 0 h in
    let empty : xs ≡ [] = nil_from_length xs (long ∙ none) in
    ap (λ (l : List _). arranged order (list is c) (l ++ rest)) empty ∙ sym (ap (λ (l : List _). l ++ arranged order (list is c) rest) empty)

pub falls : {X : Type 0} (order : List ℕ) (n : ℕ) (c : Cut) (xs rest : List X) → length xs ≡ n → is_between n c ≡ true → FallsAt order n c xs rest
unfolding front back is_between arranged
falls order n done xs rest long h = refl
falls order n (keep k c) xs rest long h =
    keep_falls order n k c xs rest long (falls order (n - k) c (drop k xs) rest (short k n xs long)) h (nat_le n k) refl
falls order n (list is c) xs rest long h =
    list_falls order n is c xs rest long (falls order (n - span_of is) c (drop (span_of is) xs) rest (short (span_of is) n xs long)) (nat_le (span_of is) n) refl h

-- ---- places in lists

-- what is in no list is between lists
keep_between : (from b k : ℕ) (c : Cut) → in_lists (from + k) c (from + b) ≡ false → (in_lists (from + k) c (from + k + (b - k)) ≡ false → is_between (b - k) c ≡ true) → (x : Bool) → nat_le b k ≡ x
    → (x || is_between (b - k) c) ≡ true
keep_between from b k c h later true e = refl
keep_between from b k c h later false e =
    let lt : k < b = leb-false b k e in
    let same : from + b ≡ from + k + (b - k) = omega (arith, lt) in
    later (ap (λ (i : ℕ). in_lists (from + k) c i) (sym same) ∙ h)

list_between : (from b : ℕ) (is : Items) (c : Cut) → ((nat_le from (from + b) && nat_le (from + b) (from + span_of is)) || in_lists (from + span_of is) c (from + b)) ≡ false
    → (in_lists (from + span_of is) c (from + span_of is + (b - span_of is)) ≡ false → is_between (b - span_of is) c ≡ true) → (x : Bool) → nat_le (span_of is) b ≡ x
    → cond x (is_between (b - span_of is) c) (b == 0) ≡ true
list_between from b is c h later true e =
    let le : span_of is ≤ b = leb-true (span_of is) b e in
    let same : from + b ≡ from + span_of is + (b - span_of is) = omega (arith, le) in
    let parts = or_none (nat_le from (from + b) && nat_le (from + b) (from + span_of is)) (in_lists (from + span_of is) c (from + b)) h in
    later (ap (λ (i : ℕ). in_lists (from + span_of is) c i) (sym same) ∙ parts.1)
list_between from b is c h later false e =
    let parts = or_none (nat_le from (from + b) && nat_le (from + b) (from + span_of is)) (in_lists (from + span_of is) c (from + b)) h in
    let far = leb-false (from + b) (from + span_of is) (and_rest (nat_le from (from + b)) (nat_le (from + b) (from + span_of is)) (le-leb from (from + b) (omega arith)) parts.0) in
    let near = leb-false (span_of is) b e in
    absurd (omega (arith, near, far))

pub no_list_between : (from b : ℕ) (c : Cut) → in_lists from c (from + b) ≡ false → is_between b c ≡ true
unfolding in_lists is_between
no_list_between from b done h = refl
no_list_between from b (keep k c) h = keep_between from b k c h (no_list_between (from + k) (b - k) c) (nat_le b k) refl
no_list_between from b (list is c) h = list_between from b is c h (no_list_between (from + span_of is) (b - span_of is) c) (nat_le (span_of is) b) refl

-- ---- lists in a part

-- what is in a list of a part is in one of the whole
in_front : (from n : ℕ) (c : Cut) (at : ℕ) → in_lists from (front n c) at ≡ true → in_lists from c at ≡ true
unfolding in_lists front
in_front from n done at h = h
in_front from n (keep k c) at h = by (nat_le n k) (in_front (from + k) (n - k) c at) h
  where
    by : (x : Bool) → (in_lists (from + k) (front (n - k) c) at ≡ true → in_lists (from + k) c at ≡ true) → in_lists from (cond x done (keep k (front (n - k) c))) at ≡ true
        → in_lists (from + k) c at ≡ true
    by true later e = absurd cc
    by false later e = later e
in_front from n (list is c) at h = by (nat_le (span_of is) n) (in_front (from + span_of is) (n - span_of is) c at) h
  where
    here : Bool
    here = nat_le from at && nat_le at (from + span_of is)

    either : (x : Bool) (y z : Bool) → (y ≡ true → z ≡ true) → (x || y) ≡ true → (x || z) ≡ true
    either true y z more e = refl
    either false y z more e = more e

    by : (x : Bool) → (in_lists (from + span_of is) (front (n - span_of is) c) at ≡ true → in_lists (from + span_of is) c at ≡ true)
        → in_lists from (cond x (list is (front (n - span_of is) c)) done) at ≡ true
        → ((nat_le from at && nat_le at (from + span_of is)) || in_lists (from + span_of is) c at) ≡ true
    by true later e =
        either (nat_le from at && nat_le at (from + span_of is)) (in_lists (from + span_of is) (front (n - span_of is) c) at) (in_lists (from + span_of is) c at) later e
    by false later e = absurd cc

keep_in : (from b m : ℕ) (c : Cut) (at : ℕ) → (is_between (b - m) c ≡ true → in_lists (from + m + (b - m)) (back (b - m) c) at ≡ true → in_lists (from + m) c at ≡ true)
    → (nat_le b m || is_between (b - m) c) ≡ true → (x : Bool) → nat_le b m ≡ x → in_lists (from + b) (cond x (keep (m - b) c) (back (b - m) c)) at ≡ true → in_lists (from + m) c at ≡ true
unfolding in_lists
keep_in from b m c at later h true e l =
    let same : from + b + (m - b) ≡ from + m = omega (arith, leb-true b m e) in
    ap (λ (i : ℕ). in_lists i c at) (sym same) ∙ l
keep_in from b m c at later h false e l =
    let lt : m < b = leb-false b m e in
    let same : from + b ≡ from + m + (b - m) = omega (arith, lt) in
    later (or_false (nat_le b m) (is_between (b - m) c) e h) (ap (λ (i : ℕ). in_lists i (back (b - m) c) at) (sym same) ∙ l)

list_in : (from b : ℕ) (is : Items) (c : Cut) (at : ℕ) → (is_between (b - span_of is) c ≡ true → in_lists (from + span_of is + (b - span_of is)) (back (b - span_of is) c) at ≡ true → in_lists (from + span_of is) c at ≡ true)
    → (x : Bool) → nat_le (span_of is) b ≡ x → cond x (is_between (b - span_of is) c) (b == 0) ≡ true → in_lists (from + b) (cond x (back (b - span_of is) c) (list is c)) at ≡ true
    → in_lists from (list is c) at ≡ true
unfolding in_lists
list_in from b is c at later true e bet l =
    let le : span_of is ≤ b = leb-true (span_of is) b e in
    let same : from + b ≡ from + span_of is + (b - span_of is) = omega (arith, le) in
    or_right (nat_le from at && nat_le at (from + span_of is)) (in_lists (from + span_of is) c at)
    (later bet (ap (λ (i : ℕ). in_lists i (back (b - span_of is) c) at) (sym same) ∙ l))
list_in from b is c at later false e bet l =
    let none : from + b ≡ from = omega (arith, eqb-true b 0 bet) in
    ap (λ (i : ℕ). in_lists i (list is c) at) (sym none) ∙ l

in_back : (from b : ℕ) (c : Cut) (at : ℕ) → is_between b c ≡ true → in_lists (from + b) (back b c) at ≡ true → in_lists from c at ≡ true
unfolding in_lists back is_between
in_back from b done at h k = k
in_back from b (keep m c) at h k = keep_in from b m c at (in_back (from + m) (b - m) c at) h (nat_le b m) refl k
in_back from b (list is c) at h k = list_in from b is c at (in_back (from + span_of is) (b - span_of is) c at) (nat_le (span_of is) b) refl h k

-- numbers go along
le_moved : (b x y : ℕ) → nat_le x y ≡ nat_le (b + x) (b + y)
le_moved b x y = by (nat_le x y) refl
  where
    by : (z : Bool) → nat_le x y ≡ z → z ≡ nat_le (b + x) (b + y)
    by true e = sym (le-leb (b + x) (b + y) (omega (arith, leb-true x y e)))
    by false e = sym (lt-leb (b + x) (b + y) (omega (arith, leb-false x y e)))

in_moved : (b from : ℕ) (c : Cut) (at : ℕ) → in_lists from c at ≡ in_lists (b + from) c (b + at)
unfolding in_lists
in_moved b from done at = refl
in_moved b from (keep k c) at =
    let same : b + (from + k) ≡ b + from + k = omega arith in
    in_moved b (from + k) c at ∙ ap (λ (i : ℕ). in_lists i c (b + at)) same
in_moved b from (list is c) at =
    let same : b + (from + span_of is) ≡ b + from + span_of is = omega arith in
    ap (λ (x : Bool). (x && nat_le at (from + span_of is)) || in_lists (from + span_of is) c at) (le_moved b from at)
    ∙ ap (λ (x : Bool). (nat_le (b + from) (b + at) && x) || in_lists (from + span_of is) c at) (le_moved b at (from + span_of is))
    ∙ ap (λ (x : Bool). (nat_le (b + from) (b + at) && nat_le (b + at) (b + (from + span_of is))) || x) (in_moved b (from + span_of is) c at)
    ∙ ap (λ (i : ℕ). (nat_le (b + from) (b + at) && nat_le (b + at) i) || in_lists i c (b + at)) same

-- what is in a list of a part
pub in_part : (b n : ℕ) (c : Cut) (at : ℕ) → is_between b c ≡ true → in_lists 0 (front n (back b c)) at ≡ true → in_lists 0 c (b + at) ≡ true
in_part b n c at h k =
    let one : in_lists 0 (back b c) at ≡ true = in_front 0 n (back b c) at k in
    let same : b + 0 ≡ 0 + b = omega arith in
    in_back 0 b c (b + at) h (ap (λ (i : ℕ). in_lists i (back b c) (b + at)) (sym same) ∙ sym (in_moved b 0 (back b c) at) ∙ one)

-- what is in no list of the whole is in none of what is behind
pub not_in_back : (b : ℕ) (c : Cut) (at : ℕ) → is_between b c ≡ true → in_lists 0 c at ≡ false → in_lists b (back b c) at ≡ false
not_in_back b c at h k = by (in_lists b (back b c) at) refl
  where
    by : (x : Bool) → in_lists b (back b c) at ≡ x → x ≡ false
    by false e = refl
    by true e =
        let same : 0 + b ≡ b = omega arith in
        let inside : in_lists 0 c at ≡ true = in_back 0 b c at h (ap (λ (i : ℕ). in_lists i (back b c) at) same ∙ e) in
        sym inside ∙ k
