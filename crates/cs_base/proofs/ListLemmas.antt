-- Facts on lists.
use Rattle.std.proofs.Common.{Bool, List, None, Some, [], ap, arith, drop, false, get_or, inl, inr, length, map, refl, subst, suc, sym, take, true, zero, ℕ, ◌++◌, ◌+◌, ◌<◌, ◌∙◌, ◌∷◌, ◌≡◌, ◌≤◌}
use Rattle.std.proofs.lemmas.Option.{get_or_from_slice_get, none-some, same_Some, slice_get-get_or, slice_get_within}
use Rattle.std.proofs.lemmas.Bool.{and_from, and_parts, both_ways, cases_Bool, eqb-true}
use Rattle.std.proofs.lemmas.List.{drop-drop, drop_more, take_more}
use Rattle.std.proofs.lemmas.Slice.Eq.{bytes_eq-Decides}
use Rattle.std.proofs.lemmas.List.Folds.{list_all-append, list_any_at}
use Rattle.std.specs.Prelude.{find, slice_get, ◌==◌}
use Rattle.std.specs.List.{flat_map, list_all, list_any, prefix_len}
use Rattle.std.specs.Str.{bytes_eq}
use Rattle.cs_base.proofs.FileMapLemmas.{bytes_eq-equal, bytes_eq-same}

pub any_at : {X : Type 0} (test : X → Bool) (xs : List X) (k : ℕ) (x : X) → slice_get xs k ≡ Some x → test x ≡ true → list_any test xs ≡ true
any_at test [] k x e h = absurd (cc)
any_at test (y ∷ xs) zero x e h = let here : test y ≡ true = ap test (same_Some y x e) ∙ h in rw here refl
any_at test (y ∷ xs) (suc k) x e h = elim (cases_Bool (test y)) [
  | inl yes' ↦ rw yes' refl
  | inr no' ↦ rw no' (any_at test xs k x e h)
]

pub at_drop : {X : Type 0} (xs : List X) (from k : ℕ) → slice_get (drop from xs) k ≡ slice_get xs (from + k)
at_drop xs zero k = let e : 0 + k ≡ k = omega arith in rw e refl
at_drop [] (suc from) k = refl
at_drop (x ∷ xs) (suc from) k = let e : suc from + k ≡ suc (from + k) = omega arith in rw e (at_drop xs from k)

pub none_mapped : {A B : Type 0} (f : A → B) (xs : List A) (k : ℕ) → slice_get xs k ≡ None → slice_get (map f xs) k ≡ None
none_mapped f [] k h = refl
none_mapped f (x ∷ xs) zero h = absurd (none-some x (sym h))
none_mapped f (x ∷ xs) (suc k) h = none_mapped f xs k h

pub in_front : {X : Type 0} (xs ys : List X) (x : X) (k : ℕ) → slice_get xs k ≡ Some x → slice_get (xs ++ ys) k ≡ Some x
in_front [] ys x k e = absurd (none-some x e)
in_front (y ∷ xs) ys x zero e = e
in_front (y ∷ xs) ys x (suc k) e = in_front xs ys x k e

pub none_at : {X : Type 0} (test : X → Bool) (xs : List X) (x : X) (k : ℕ) → find test xs ≡ None → slice_get xs k ≡ Some x → test x ≡ true → ⊥
none_at test [] x k e at h = absurd (cc)
none_at test (y ∷ xs) x zero e at h = elim (cases_Bool (test y)) [
  | inl yes' ↦ let here : Some y ≡ None = rw yes' at e in absurd (cc)
  | inr no' ↦ both_ways (test y) no' (ap test (same_Some y x at) ∙ h)
]
none_at test (y ∷ xs) x (suc k) e at h = elim (cases_Bool (test y)) [
  | inl yes' ↦ let here : Some y ≡ None = rw yes' at e in absurd (cc)
  | inr no' ↦ none_at test xs x k (rw no' at e) at h
]

pub drop-next : (bytes : List ℕ) (o c : ℕ) (cs : List ℕ) → drop o bytes ≡ c ∷ cs → drop (o + 1) bytes ≡ cs
drop-next bytes o c cs here = sym (drop-drop 1 o bytes) ∙ ap (λ (zs : List ℕ). drop 1 zs) here

pub take_at : {X : Type 0} (xs : List X) (k : ℕ) (x : X) → slice_get xs k ≡ Some x → take (suc k) xs ≡ take k xs ++ x ∷ []
take_at [] k x is = absurd (none-some x is)
take_at (y ∷ ys) zero x is = ap (λ (v : _). v ∷ []) (same_Some y x is)
take_at (y ∷ ys) (suc k) x is = ap (λ (l : List _). y ∷ l) (take_at ys k x is)

pub map-map : {A B C : Type 0} (f : B → C) (g : A → B) (xs : List A) → map f (map g xs) ≡ map (λ x. f (g x)) xs
map-map f g [] = refl
map-map f g (x ∷ xs) = ap (λ v. f (g x) ∷ v) (map-map f g xs)

pub map-same : {X Y : Type 0} (f g : X → Y) (xs : List X) → ((x : X) → f x ≡ g x) → map f xs ≡ map g xs
map-same f g [] same = refl
map-same f g (x ∷ xs) same = ap (λ y. y ∷ map f xs) (same x) ∙ ap (λ (l : List _). g x ∷ l) (map-same f g xs same)

pub bytes_eq-apart : (p q : List ℕ) → bytes_eq p q ≡ false → bytes_eq q p ≡ false
bytes_eq-apart p q apart = elim (cases_Bool (bytes_eq q p)) [
  | inl same ↦
      let there : bytes_eq p p ≡ false = subst (λ (r : List ℕ). bytes_eq p r ≡ false) (bytes_eq-equal q p same) apart in
      let wrong : true ≡ false = sym (bytes_eq-same p) ∙ there in
      absurd (cc)
  | inr other ↦ other
]

pub spelled_same : (a b : List ℕ) → a ≡ b → bytes_eq a b ≡ true
spelled_same a b h = (bytes_eq-Decides a b).1 h

-- what stands behind a front is not read there
pub get-front : {A : Type 0} (xs ys : List A) (n : ℕ) → n < length xs → slice_get (xs ++ ys) n ≡ slice_get xs n
get-front [] ys n l = absurd (omega arith)
get-front (x ∷ xs) ys zero l = refl
get-front (x ∷ xs) ys (suc n) l = get-front xs ys n (omega arith)

-- the element that an index reads
pub read_at : {X : Type 0} (xs : List X) (k : ℕ) (x : X) → k < length xs → x ≡ get_or xs k x → slice_get xs k ≡ Some x
read_at {X = X} xs k x within is = slice_get-get_or xs k x within ∙ ap (λ (y : X). Some y) (sym is)

pub list_all-push : {X : Type 0} (p : X → Bool) (xs : List X) (x : X) → list_all p xs ≡ true → p x ≡ true → list_all p (xs ++ x ∷ []) ≡ true
list_all-push p xs x h q = list_all-append p xs (x ∷ []) ∙ and_from (list_all p xs) (list_all p (x ∷ [])) h (and_from (p x) true q refl)

pub below_length : {A : Type 0} (xs : List A) (k : ℕ) (x : A) → slice_get xs k ≡ Some x → k < length xs
below_length [] k x h = absurd (none-some x h)
below_length (y ∷ xs) zero x h = omega arith
below_length (y ∷ xs) (suc k) x h = let b = below_length xs k x h in omega arith

pub drop_at : {A : Type 0} (xs : List A) (k : ℕ) (x : A) → slice_get xs k ≡ Some x → drop k xs ≡ x ∷ drop (suc k) xs
drop_at [] k x h = absurd (none-some x h)
drop_at (y ∷ xs) zero x h = ap (λ z. z ∷ xs) (same_Some y x h)
drop_at (y ∷ xs) (suc k) x h = drop_at xs k x h

pub drop-some : {X : Type 0} (xs : List X) (k : ℕ) (x : X) → slice_get xs k ≡ Some x → drop k xs ≡ x ∷ drop (k + 1) xs
drop-some {X = X} xs k x at =
    drop_more xs k x (slice_get_within xs k x at) ∙ ap (λ (y : X). y ∷ drop (k + 1) xs) (get_or_from_slice_get xs k x x at)

pub prefix_len-cons : {X : Type 0} (p : X → Bool) (x : X) (xs : List X) → p x ≡ true → prefix_len p (x ∷ xs) ≡ suc (prefix_len p xs)
prefix_len-cons p x xs holds = rw holds (omega arith)

pub prefix_len-stop : {X : Type 0} (p : X → Bool) (x : X) (xs : List X) → p x ≡ false → prefix_len p (x ∷ xs) ≡ 0
prefix_len-stop p x xs fails = rw fails refl

pub prefix_len_le : {X : Type 0} (p : X → Bool) (xs : List X) → prefix_len p xs ≤ length xs
prefix_len_le p [] = omega arith
prefix_len_le p (x ∷ xs) = elim (cases_Bool (p x)) [
  | inl holds ↦ let here = prefix_len-cons p x xs holds in let below = prefix_len_le p xs in omega arith
  | inr fails ↦ let here = prefix_len-stop p x xs fails in omega arith
]

pub front_none : {X : Type 0} (xs ys : List X) → xs ++ ys ≡ [] → xs ≡ []
front_none [] ys e = refl
front_none (x ∷ xs) ys e = absurd cc

pub nil_behind : {X : Type 0} (xs ys : List X) → xs ++ ys ≡ [] → ys ≡ []
nil_behind [] ys none = none
nil_behind (x ∷ xs) ys none = absurd (cc)

pub in_take : {X : Type 0} (n i : ℕ) (xs : List X) (x : X) → slice_get (take n xs) i ≡ Some x → slice_get xs i ≡ Some x
in_take zero i xs x is = absurd (none-some x is)
in_take (suc n) i [] x is = absurd (none-some x is)
in_take (suc n) zero (y ∷ ys) x is = is
in_take (suc n) (suc i) (y ∷ ys) x is = in_take n i ys x is

pub in_drop : {X : Type 0} (n i : ℕ) (xs : List X) (x : X) → slice_get (drop n xs) i ≡ Some x → slice_get xs (n + i) ≡ Some x
in_drop zero i xs x is = let same : 0 + i ≡ i = omega arith in rw same is
in_drop (suc n) i [] x is = absurd (none-some x is)
in_drop (suc n) i (y ∷ ys) x is = let on : suc n + i ≡ suc (n + i) = omega arith in rw on (in_drop n i ys x is)

pub drop_none : {X : Type 0} (xs : List X) (k : ℕ) → slice_get xs k ≡ None → drop k xs ≡ []
drop_none [] zero at = refl
drop_none [] (suc k) at = refl
drop_none (x ∷ xs) zero at = let no : Some x ≡ None = at in absurd cc
drop_none (x ∷ xs) (suc k) at = drop_none xs k at

pub drop-front : (xs ys : List ℕ) → drop (length xs) (xs ++ ys) ≡ ys
drop-front [] ys = refl
drop-front (x ∷ xs) ys = drop-front xs ys

pub nil_from : {X : Type 0} (xs : List X) → true ≡ (length xs == 0) → xs ≡ []
nil_from [] e = refl
nil_from (x ∷ xs) e = absurd (let same = eqb-true (length (x ∷ xs)) 0 (sym e) in omega (arith, same))

pub not_nil : {X : Type 0} (xs : List X) → false ≡ (length xs == 0) → xs ≡ [] → ⊥
not_nil [] e none = cc
not_nil (x ∷ xs) e none = cc

pub passes_at : {X : Type 0} (test : X → Bool) (xs : List X) (k : ℕ) (x : X) → list_all test xs ≡ true → slice_get xs k ≡ Some x → test x ≡ true
passes_at test [] k x h e = absurd (cc)
passes_at test (y ∷ xs) zero x h e = ap test (sym (same_Some y x e)) ∙ (and_parts (test y) (list_all test xs) h).0
passes_at test (y ∷ xs) (suc k) x h e = passes_at test xs k x ((and_parts (test y) (list_all test xs) h).1) e

pub next : {X : Type 0} (xs : List X) (k : ℕ) (x : X) → slice_get xs k ≡ Some x → take (k + 1) xs ≡ take k xs ++ x ∷ []
next {X = X} xs k x at =
    take_more xs k x (slice_get_within xs k x at) ∙ ap (λ (y : X). take k xs ++ y ∷ []) (get_or_from_slice_get xs k x x at)

pub default : {X : Type 0} (xs : List X) (k : ℕ) (x y : X) → k < length xs → get_or xs k x ≡ get_or xs k y
default [] k x y less = absurd (omega (arith, less))
default (z ∷ xs) zero x y less = refl
default (z ∷ xs) (suc k) x y less = default xs k x y (omega (arith, less))

pub front_at : {X : Type 0} (xs ys : List X) (m : ℕ) (x : X) → slice_get xs m ≡ Some x → slice_get (xs ++ ys) m ≡ Some x
front_at [] ys m x is = absurd (none-some x is)
front_at (y ∷ xs) ys zero x is = is
front_at (y ∷ xs) ys (suc m) x is = front_at xs ys m x is

pub any_there : {X : Type 0} (p : X → Bool) (xs : List X) (k : ℕ) (x : X) → slice_get xs k ≡ Some x → p x ≡ true → list_any p xs ≡ true
any_there p xs k x at is =
    list_any_at p xs k x (slice_get_within xs k x at) (ap p (get_or_from_slice_get xs k x x at) ∙ is)

pub flat_map_same : {X A : Type 0} (f g : X → List A) (xs : List X) → ((x : X) → f x ≡ g x) → flat_map f xs ≡ flat_map g xs
flat_map_same f g [] same = refl
flat_map_same f g (x ∷ xs) same = rw (same x, flat_map_same f g xs same) refl

pub to_drop : {X : Type 0} (n k : ℕ) (xs : List X) (x : X) → slice_get xs (n + k) ≡ Some x → slice_get (drop n xs) k ≡ Some x
to_drop zero k xs x is = let same : 0 + k ≡ k = omega arith in ap (λ (i : ℕ). slice_get xs i) (sym same) ∙ is
to_drop (suc n) k [] x is = is
to_drop (suc n) k (y ∷ ys) x is =
    let same : suc n + k ≡ suc (n + k) = omega arith in
    to_drop n k ys x (ap (λ (i : ℕ). slice_get (y ∷ ys) i) (sym same) ∙ is)

pub at_take : {X : Type 0} (n k : ℕ) (xs : List X) (x : X) → k < n → slice_get xs k ≡ Some x → slice_get (take n xs) k ≡ Some x
at_take zero k xs x lt is = absurd (omega (arith, lt))
at_take (suc n) k [] x lt is = is
at_take (suc n) zero (y ∷ ys) x lt is = is
at_take (suc n) (suc k) (y ∷ ys) x lt is = at_take n k ys x (omega (arith, lt)) is

pub all_more : (p q : ℕ → Bool) → ((b : ℕ) → p b ≡ true → q b ≡ true) → (text : List ℕ) → list_all p text ≡ true → list_all q text ≡ true
all_more p q step [] h = refl
all_more p q step (b ∷ text) h = and_from _ _ (step b ((and_parts _ _ h).0)) (all_more p q step text ((and_parts _ _ h).1))

pub passes-at : {X : Type 0} (p : X → Bool) (rows : List X) (k : ℕ) (x : X) → list_all p rows ≡ true → slice_get rows k ≡ Some x → p x ≡ true
passes-at p [] k x all at = absurd (cc)
passes-at p (y ∷ rows) zero x all at = subst (λ (z : _). p z ≡ true) (same_Some y x at) (and_parts (p y) (list_all p rows) all).0
passes-at p (y ∷ rows) (suc k) x all at = passes-at p rows k x (and_parts (p y) (list_all p rows) all).1 at

pub get_taken : {X : Type 0} (n : ℕ) (xs : List X) (i : ℕ) (x : X) → slice_get (take n xs) i ≡ Some x → slice_get xs i ≡ Some x
get_taken zero [] i x is = is
get_taken zero (y ∷ xs) i x is = absurd (none-some x is)
get_taken (suc n) [] i x is = is
get_taken (suc n) (y ∷ xs) zero x is = is
get_taken (suc n) (y ∷ xs) (suc i) x is = get_taken n xs i x is

pub get_dropped : {X : Type 0} (n : ℕ) (xs : List X) (i : ℕ) (x : X) → slice_get (drop n xs) i ≡ Some x → slice_get xs (n + i) ≡ Some x
get_dropped zero xs i x is = let same : 0 + i ≡ i = omega arith in rw same is
get_dropped (suc n) [] i x is = absurd (cc)
get_dropped (suc n) (y ∷ xs) i x is = let same : suc n + i ≡ suc (n + i) = omega arith in rw same (get_dropped n xs i x is)

pub has_bytes : (text : List ℕ) → bytes_eq text [] ≡ false → 0 < length text
has_bytes [] full = absurd (cc)
has_bytes (b ∷ text) full = omega arith
