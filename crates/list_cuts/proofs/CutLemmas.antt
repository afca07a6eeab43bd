-- What a cut does to the elements, whatever they are.
use Rattle.std.proofs.Common.{ℕ, ◌+◌, ◌-◌, ◌≡◌, ◌<◌, ◌≤◌, true, false, List, [], ◌∷◌, ◌++◌, length, take, drop, map, get_or, refl, sym, ap, ◌∙◌, arith, length-drop, append_assoc, take-add}
use Rattle.std.specs.Prelude.{sum_by, ◌==◌, ◌||◌, nat_lt, Bool, IsPermutation}
use Rattle.std.specs.List.{list_any}
use Rattle.std.proofs.lemmas.Bool.{lt-ltb, eq-eqb}
use Rattle.std.proofs.lemmas.List.Folds.{list_any_at}
use Rattle.std.proofs.lemmas.List.{length-map, drop-drop, take-append-le, same_lists, get_or-map, get_or_default, nil_from_length, drop-append-le, take-append-drop, take-map, drop-map, map-append}
use Rattle.std.proofs.lemmas.List.Sums.{sum_by-cons, sum_by-append}
use Rattle.std.proofs.lemmas.List.Sorted.{sum_by-IsPermutation, length_permutation, IsPermutation-refl, IsPermutation-map}
use Rattle.std.proofs.Math.ListN as listn
use Rattle.list_cuts.specs.Cuts.{Cut, done, keep, list, Items, ended, item, count_of, span_of, extent_of, numbers, IsOrder, item_at, picked, woven, gaps_of, arranged, items_of, AreOf, AreItemsOf}
use Rattle.list_cuts.proofs.OrderLemmas.{picked_permutes, length-picked, length-numbers, get_or-numbers, permutes}
use Rattle.list_cuts.specs.Orders.{has_number}
use Rattle.list_cuts.proofs.MetLemmas.{all_numbers}

-- ---- sums over the elements

abbrev total_by : {X : Type 0} → (X → ℕ) → List (List X) → ℕ
total_by f xss = sum_by (sum_by f) xss

sum-woven : {X : Type 0} (f : X → ℕ) (items gaps : List (List X)) → length items ≡ length gaps
    → sum_by f (woven items gaps) ≡ total_by f items + total_by f gaps
unfolding woven
sum-woven f [] [] e = refl
sum-woven f [] (g ∷ gaps) e = absurd (omega (arith, e))
sum-woven f (i ∷ items) [] e = absurd (omega (arith, e))
sum-woven f (i ∷ items) (g ∷ gaps) e =
    let rest = sum-woven f items gaps (omega (arith, e)) in
    sum_by-append f i (g ++ woven items gaps) ∙ ap (λ (n : ℕ). sum_by f i + n) (sum_by-append f g (woven items gaps))
    ∙ omega (arith, sum_by-cons (sum_by f) i items, sum_by-cons (sum_by f) g gaps, rest)

pub length-items_of : {X : Type 0} (order : List ℕ) (is : Items) (xs : List X) → length (items_of order is xs) ≡ count_of is
unfolding items_of count_of
length-items_of order ended xs = refl
length-items_of order (item n c gap more) xs = let rest = length-items_of order more (drop (n + gap) xs) in omega arith

pub length-gaps_of : {X : Type 0} (is : Items) (xs : List X) → length (gaps_of is xs) ≡ count_of is
unfolding gaps_of count_of
length-gaps_of ended xs = refl
length-gaps_of (item n c gap more) xs = let rest = length-gaps_of more (drop (n + gap) xs) in omega arith

take-sum : {X : Type 0} (f : X → ℕ) (n m : ℕ) (xs : List X) → sum_by f (take (n + m) xs) ≡ sum_by f (take n xs) + sum_by f (take m (drop n xs))
take-sum f n m xs = ap (λ (ys : List _). sum_by f ys) (take-add n m xs) ∙ sum_by-append f (take n xs) (take m (drop n xs))

split-sum : {X : Type 0} (f : X → ℕ) (n : ℕ) (xs : List X) → sum_by f (take n xs) + sum_by f (drop n xs) ≡ sum_by f xs
split-sum f n xs = sym (sum_by-append f (take n xs) (drop n xs)) ∙ ap (λ (ys : List _). sum_by f ys) (take-append-drop n xs)

pub length-order : (n : ℕ) (order : List ℕ) → IsOrder n order → length order ≡ n
length-order n order is = length_permutation (numbers 1 n) order is ∙ length-numbers n 1

-- picking leaves the sum of the items as it is
sum-picked : {X : Type 0} (f : X → ℕ) (n : ℕ) (order : List ℕ) (is : Items) (xs : List X) → IsOrder n order → count_of is ≡ n
    → sum_by f (woven (picked order (items_of order is xs)) (gaps_of is xs)) ≡ total_by f (items_of order is xs) + total_by f (gaps_of is xs)
sum-picked f n order is xs permutes many =
    let items = items_of order is xs in
    let some : length items ≡ n = length-items_of order is xs ∙ many in
    let moved = picked_permutes order items (rw some permutes) in
    let alike : length (picked order items) ≡ length (gaps_of is xs) =
    length-picked order items ∙ length-order n order permutes ∙ sym many ∙ sym (length-gaps_of is xs) in
    sum-woven f (picked order items) (gaps_of is xs) alike
    ∙ ap (λ (k : ℕ). k + total_by f (gaps_of is xs)) (sum_by-IsPermutation (sum_by f) items (picked order items) moved)

mutual
  unfolding arranged items_of gaps_of span_of

  pub sum-arranged : {X : Type 0} (f : X → ℕ) (n : ℕ) (order : List ℕ) (c : Cut) (xs : List X) → IsOrder n order → AreOf n c
      → sum_by f (arranged order c xs) ≡ sum_by f xs
  sum-arranged f n order done xs is all = refl
  sum-arranged f n order (keep k c) xs is all =
      let rest = sum-arranged f n order c (drop k xs) is all in
      sum_by-append f (take k xs) (arranged order c (drop k xs)) ∙ ap (λ (m : ℕ). sum_by f (take k xs) + m) rest ∙ split-sum f k xs
  sum-arranged f n order (list items c) xs is all =
      let rest = sum-arranged f n order c (drop (span_of items) xs) is all.2 in
      let here = sum-picked f n order items xs is all.0 ∙ sum-items f n order items xs is all.1 in
      sum_by-append f (woven (picked order (items_of order items xs)) (gaps_of items xs)) (arranged order c (drop (span_of items) xs))
      ∙ ap (λ (m : ℕ). m + sum_by f (arranged order c (drop (span_of items) xs))) here
      ∙ ap (λ (m : ℕ). sum_by f (take (span_of items) xs) + m) rest ∙ split-sum f (span_of items) xs

  sum-items : {X : Type 0} (f : X → ℕ) (n : ℕ) (order : List ℕ) (is : Items) (xs : List X) → IsOrder n order → AreItemsOf n is
      → total_by f (items_of order is xs) + total_by f (gaps_of is xs) ≡ sum_by f (take (span_of is) xs)
  sum-items f n order ended xs is all = refl
  sum-items f n order (item k c gap more) xs is all =
      let here = sum-arranged f n order c (take k xs) is all.0 in
      let rest = sum-items f n order more (drop (k + gap) xs) is all.1 in
      let whole = take-sum f k (gap + span_of more) xs in
      let behind = take-sum f gap (span_of more) (drop k xs) in
      let back : sum_by f (take (span_of more) (drop gap (drop k xs))) ≡ sum_by f (take (span_of more) (drop (k + gap) xs)) =
      ap (λ (ys : List _). sum_by f (take (span_of more) ys)) (drop-drop gap k xs) in
      ap (λ (m : ℕ). m + total_by f (gaps_of (item k c gap more) xs)) (sum_by-cons (sum_by f) (arranged order c (take k xs)) (items_of order more (drop (k + gap) xs)))
      ∙ ap (λ (m : ℕ). (sum_by f (arranged order c (take k xs)) + total_by f (items_of order more (drop (k + gap) xs))) + m) (sum_by-cons (sum_by f) (take gap (drop k xs)) (gaps_of more (drop (k + gap) xs)))
      ∙ omega (arith, here, rest, whole, behind, back)

-- ---- what is done to each element goes along

woven-map : {X Y : Type 0} (f : X → Y) (items gaps : List (List X)) → woven (map (map f) items) (map (map f) gaps) ≡ map f (woven items gaps)
unfolding woven
woven-map f [] gaps = refl
woven-map f (i ∷ items) [] = refl
woven-map f (i ∷ items) (g ∷ gaps) =
    ap (λ (ys : List _). map f i ++ (map f g ++ ys)) (woven-map f items gaps)
    ∙ sym (map-append f i (g ++ woven items gaps) ∙ ap (λ (ys : List _). map f i ++ ys) (map-append f g (woven items gaps)))

picked-map : {X Y : Type 0} (f : X → Y) (order : List ℕ) (items : List (List X)) → picked order (map (map f) items) ≡ map (map f) (picked order items)
picked-map f [] items = refl
picked-map f (k ∷ order) items =
    ap (λ (y : List _). y ∷ picked order (map (map f) items)) (listn.get_or-map (map f) items (k - 1) [])
    ∙ ap (λ (ys : List (List _)). map f (item_at items k) ∷ ys) (picked-map f order items)

gaps_of-map : {X Y : Type 0} (f : X → Y) (is : Items) (xs : List X) → gaps_of is (map f xs) ≡ map (map f) (gaps_of is xs)
unfolding gaps_of
gaps_of-map f ended xs = refl
gaps_of-map f (item n c gap more) xs =
    rw (drop-map f n xs, drop-map f (n + gap) xs, take-map f gap (drop n xs), gaps_of-map f more (drop (n + gap) xs)) refl

mutual
  unfolding arranged items_of

  pub arranged-map : {X Y : Type 0} (f : X → Y) (order : List ℕ) (c : Cut) (xs : List X) → arranged order c (map f xs) ≡ map f (arranged order c xs)
  arranged-map f order done xs = refl
  arranged-map f order (keep k c) xs =
      rw (take-map f k xs, drop-map f k xs, arranged-map f order c (drop k xs)) (sym (map-append f (take k xs) (arranged order c (drop k xs))))
  arranged-map f order (list items c) xs =
      rw (
        items_of-map f order items xs,
        gaps_of-map f items xs,
        picked-map f order (items_of order items xs),
        woven-map f (picked order (items_of order items xs)) (gaps_of items xs),
        drop-map f (span_of items) xs,
        arranged-map f order c (drop (span_of items) xs),
      )
      (sym (map-append f (woven (picked order (items_of order items xs)) (gaps_of items xs)) (arranged order c (drop (span_of items) xs))))

  items_of-map : {X Y : Type 0} (f : X → Y) (order : List ℕ) (is : Items) (xs : List X) → items_of order is (map f xs) ≡ map (map f) (items_of order is xs)
  items_of-map f order ended xs = refl
  items_of-map f order (item k c gap more) xs =
      rw (take-map f k xs, drop-map f (k + gap) xs, arranged-map f order c (take k xs), items_of-map f order more (drop (k + gap) xs)) refl

-- ---- what follows stays

pub short-drop : {X : Type 0} (n m : ℕ) (xs : List X) → n + m ≤ length xs → m ≤ length (drop n xs)
short-drop n m xs h = rw (length-drop n xs) (omega (arith, h))

pub gaps_of-append : {X : Type 0} (is : Items) (xs ys : List X) → span_of is ≤ length xs → gaps_of is (xs ++ ys) ≡ gaps_of is xs
unfolding gaps_of span_of
gaps_of-append ended xs ys h = refl
gaps_of-append (item n c gap more) xs ys h =
    let one : n ≤ length xs = omega (arith, h) in
    let two : n + gap ≤ length xs = omega (arith, h) in
    let gap_within : gap ≤ length (drop n xs) = short-drop n gap xs two in
    let rest_within : span_of more ≤ length (drop (n + gap) xs) = short-drop (n + gap) (span_of more) xs (omega (arith, h)) in
    rw (
      drop-append-le n xs ys one,
      drop-append-le (n + gap) xs ys two,
      take-append-le gap (drop n xs) ys gap_within,
      gaps_of-append more (drop (n + gap) xs) ys rest_within,
    ) refl

mutual
  unfolding arranged items_of span_of extent_of

  pub arranged-append : {X : Type 0} (order : List ℕ) (c : Cut) (xs ys : List X) → extent_of c ≤ length xs
      → arranged order c (xs ++ ys) ≡ arranged order c xs ++ ys
  arranged-append order done xs ys h = refl
  arranged-append order (keep k c) xs ys h =
      let one : k ≤ length xs = omega (arith, h) in
      let rest : extent_of c ≤ length (drop k xs) = short-drop k (extent_of c) xs h in
      rw (take-append-le k xs ys one, drop-append-le k xs ys one, arranged-append order c (drop k xs) ys rest)
      (sym (append_assoc (take k xs) (arranged order c (drop k xs)) ys))
  arranged-append order (list items c) xs ys h =
      let one : span_of items ≤ length xs = omega (arith, h) in
      let rest : extent_of c ≤ length (drop (span_of items) xs) = short-drop (span_of items) (extent_of c) xs h in
      rw (
        items_of-append order items xs ys one,
        gaps_of-append items xs ys one,
        drop-append-le (span_of items) xs ys one,
        arranged-append order c (drop (span_of items) xs) ys rest,
      )
      (sym (append_assoc (woven (picked order (items_of order items xs)) (gaps_of items xs)) (arranged order c (drop (span_of items) xs)) ys))

  pub items_of-append : {X : Type 0} (order : List ℕ) (is : Items) (xs ys : List X) → span_of is ≤ length xs
      → items_of order is (xs ++ ys) ≡ items_of order is xs
  items_of-append order ended xs ys h = refl
  items_of-append order (item k c gap more) xs ys h =
      let one : k ≤ length xs = omega (arith, h) in
      let two : k + gap ≤ length xs = omega (arith, h) in
      let rest : span_of more ≤ length (drop (k + gap) xs) = short-drop (k + gap) (span_of more) xs (omega (arith, h)) in
      rw (take-append-le k xs ys one, drop-append-le (k + gap) xs ys two, items_of-append order more (drop (k + gap) xs) ys rest) refl

-- ---- elements change places, and none is lost or made

abbrev one_if : Bool → ℕ
one_if true = 1
one_if false = 0

any-sum : {X : Type 0} (p : X → Bool) (xs : List X) → list_any p xs ≡ nat_lt 0 (sum_by (λ x. one_if (p x)) xs)
any-sum p [] = refl
any-sum p (x ∷ xs) =
    rw (sum_by-cons (λ y. one_if (p y)) x xs) (with_first (p x) (list_any p xs) (sum_by (λ y. one_if (p y)) xs) (any-sum p xs))
  where
    with_first : (b c : Bool) (n : ℕ) → c ≡ nat_lt 0 n → (b || c) ≡ nat_lt 0 (one_if b + n)
    with_first true c n e = sym (lt-ltb 0 (1 + n) (omega arith))
    with_first false c n e = let same : 0 + n ≡ n = omega arith in rw same e

pub any-arranged : {X : Type 0} (p : X → Bool) (n : ℕ) (order : List ℕ) (c : Cut) (xs : List X) → IsOrder n order → AreOf n c
    → list_any p (arranged order c xs) ≡ list_any p xs
any-arranged p n order c xs is all =
    any-sum p (arranged order c xs) ∙ ap (λ (k : ℕ). nat_lt 0 k) (sum-arranged (λ x. one_if (p x)) n order c xs is all) ∙ sym (any-sum p xs)

ones : {X : Type 0} (xs : List X) → sum_by (λ x. 1) xs ≡ length xs
ones [] = refl
ones (x ∷ xs) = let more = sum_by-cons (λ y. 1) x xs in let rest = ones xs in omega (arith, more, rest)

pub length-arranged : {X : Type 0} (n : ℕ) (order : List ℕ) (c : Cut) (xs : List X) → IsOrder n order → AreOf n c
    → length (arranged order c xs) ≡ length xs
length-arranged n order c xs is all =
    sym (ones (arranged order c xs)) ∙ sum-arranged (λ x. 1) n order c xs is all ∙ ones xs

numbers_have : (n from k : ℕ) → k < n → has_number (numbers from n) (from + k) ≡ true
numbers_have n from k lt =
    list_any_at (λ o. o == from + k) (numbers from n) k 0 (rw (length-numbers n from) lt) (eq-eqb (get_or (numbers from n) k 0) (from + k) (get_or-numbers n from k 0 lt))

-- numbers change places
numbers_permute : (n m : ℕ) (order : List ℕ) (c : Cut) → IsOrder n order → AreOf n c → IsPermutation (numbers 0 m) (arranged order c (numbers 0 m))
numbers_permute n m order c is all =
    permutes m 0 (arranged order c (numbers 0 m)) (length-arranged n order c (numbers 0 m) is all ∙ length-numbers m 0)
    (all_numbers (arranged order c (numbers 0 m)) m 0 (λ k lt. any-arranged (λ o. o == 0 + k) n order c (numbers 0 m) is all ∙ numbers_have m 0 k lt))

-- the elements by their numbers
numbered : {X : Type 0} (d : X) (xs : List X) → map (λ k. get_or xs k d) (numbers 0 (length xs)) ≡ xs
numbered d xs =
    let len : length (map (λ k. get_or xs k d) (numbers 0 (length xs))) ≡ length xs =
    length-map (numbers 0 (length xs)) (λ k. get_or xs k d) ∙ length-numbers (length xs) 0 in
    same_lists (map (λ k. get_or xs k d) (numbers 0 (length xs))) xs len (λ k e lt. at k e (rw len at lt))
  where
    at_number : (k : ℕ) → k < length xs → get_or (numbers 0 (length xs)) k 0 ≡ k
    at_number k lt = get_or-numbers (length xs) 0 k 0 lt ∙ omega arith

    at : (k : ℕ) (e : _) → k < length xs → get_or (map (λ k. get_or xs k d) (numbers 0 (length xs))) k e ≡ get_or xs k e
    at k e lt =
        get_or-map (λ k. get_or xs k d) (numbers 0 (length xs)) k 0 e (rw (length-numbers (length xs) 0) lt)
        ∙ ap (λ (j : ℕ). get_or xs j d) (at_number k lt) ∙ get_or_default xs k d e lt

pub arranged_permutes : {X : Type 0} (n : ℕ) (order : List ℕ) (c : Cut) (xs : List X) → IsOrder n order → AreOf n c
    → IsPermutation xs (arranged order c xs)
arranged_permutes n order c [] is all =
    empty (arranged order c []) (nil_from_length (arranged order c []) (length-arranged n order c [] is all))
  where
    empty : {X : Type 0} (ys : List X) → ys ≡ [] → IsPermutation [] ys
    empty ys none = rw none (IsPermutation-refl [])
arranged_permutes n order c (x ∷ xs) is all =
    let at = λ (k : ℕ). get_or (x ∷ xs) k x in
    let moved = IsPermutation-map at (numbers 0 (length (x ∷ xs))) (arranged order c (numbers 0 (length (x ∷ xs)))) (numbers_permute n (length (x ∷ xs)) order c is all) in
    rw (← arranged-map at order c (numbers 0 (length (x ∷ xs))), numbered x (x ∷ xs)) at moved
