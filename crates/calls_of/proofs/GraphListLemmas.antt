-- Lists of numbers that pass a test: in order, each once, and exactly those.
use Rattle.std.proofs.Common.{◌≡◌, ◌⊎◌, subst, ℕ, zero, suc, ◌+◌, ◌<◌, ◌≤◌, Bool, true, false, cond, List, [], ◌∷◌, length, get_or, refl, sym, ap, ◌∙◌, ⊎_elim, inl, inr, arith, ◌++◌, add-one}
use Rattle.std.specs.Prelude.{filter, IfOk, Result, Ok, Err}
use Rattle.std.specs.List.{range_with_len, Contains}
use Rattle.std.proofs.lemmas.Bool.{cases_Bool, cond_both, false≢true}
use Rattle.std.proofs.lemmas.List.Elements.{filter-append}
use Rattle.std.proofs.lemmas.List.FromFn.{length-range_with_len, get_or-range_with_len}
use Rattle.calls_of.specs.Graph.{numbers_of}
use Rattle.calls_of.specs.Reaching.{Ascend, Lists}

-- numbers that ascend from a number on ascend from each number below it
ascend-lower : (low high : ℕ) (ns : List ℕ) → low ≤ high → Ascend high ns → Ascend low ns
ascend-lower low high [] below h = tt
ascend-lower low high (n ∷ ns) below h = (omega (arith, h.0), h.1)

ascend-filter : (test : ℕ → Bool) (a n : ℕ) → Ascend a (filter test (range_with_len a n))
ascend-filter test a zero = tt
ascend-filter test a (suc n) =
    let rest = ascend-filter test (a + 1) n in
    cond_both (test a) (a ∷ filter test (range_with_len (a + 1) n)) (filter test (range_with_len (a + 1) n)) (Ascend a)
    (λ _. (omega arith, rest))
    (λ _. ascend-lower a (a + 1) (filter test (range_with_len (a + 1) n)) (omega arith) rest)

contains-here : (x : ℕ) (xs : List ℕ) → Contains (x ∷ xs) x
contains-here x xs = (0, omega arith, refl)

contains-there : (x y : ℕ) (xs : List ℕ) → Contains xs y → Contains (x ∷ xs) y
contains-there x y xs h = (suc h.0, omega (arith, h.1), h.2)

pub contains-cases : (x y : ℕ) (xs : List ℕ) → Contains (x ∷ xs) y → (x ≡ y) ⊎ Contains xs y
contains-cases x y xs h = at h.0 h.1 h.2
  where
    at : (k : ℕ) → k < length (x ∷ xs) → get_or (x ∷ xs) k y ≡ y → (x ≡ y) ⊎ Contains xs y
    at zero within is = inl is
    at (suc k) within is = inr (k, omega (arith, within), is)

pub contains-none : (y : ℕ) → Contains [] y → ⊥
contains-none y h = absurd (omega (arith, h.1))

pub range-more : (a n : ℕ) → range_with_len a (suc n) ≡ range_with_len a n ++ (a + n) ∷ []
range-more a zero = let e : a ≡ a + 0 = omega arith in ap (λ (k : ℕ). k ∷ []) e
range-more a (suc n) =
    let e : a + 1 + n ≡ a + suc n = omega arith in
    ap (λ (ks : List ℕ). a ∷ ks) (range-more (a + 1) n ∙ ap (λ (k : ℕ). range_with_len (a + 1) n ++ k ∷ []) e)

-- one number more that is tried
pub numbers-more : (test : ℕ → Bool) (n : ℕ) → numbers_of test (n + 1) ≡ numbers_of test n ++ cond (test n) (n ∷ []) []
numbers-more test n =
    let e : 0 + n ≡ n = omega arith in
    let whole : range_with_len 0 (n + 1) ≡ range_with_len 0 n ++ n ∷ [] =
    ap (range_with_len 0) (add-one n) ∙ range-more 0 n ∙ ap (λ (k : ℕ). range_with_len 0 n ++ k ∷ []) e in
    ap (filter test) whole ∙ filter-append test (range_with_len 0 n) (n ∷ [])

-- two tests that agree below a bound
filter-range_agree : (p q : ℕ → Bool) (a n : ℕ) → ((m : ℕ) → a ≤ m → m < a + n → p m ≡ q m)
    → filter p (range_with_len a n) ≡ filter q (range_with_len a n)
filter-range_agree p q a zero agree = refl
filter-range_agree p q a (suc n) agree =
    let rest = filter-range_agree p q (a + 1) n (λ m low high. agree m (omega arith) (omega arith)) in
    rw (agree a (omega arith) (omega arith), rest) refl

pub numbers-agree : (p q : ℕ → Bool) (n : ℕ) → ((m : ℕ) → m < n → p m ≡ q m) → numbers_of p n ≡ numbers_of q n
numbers-agree p q n agree = filter-range_agree p q 0 n (λ m low high. agree m (omega arith))

-- what a filter keeps is what passes
filter-told : (test : ℕ → Bool) (xs : List ℕ) (m : ℕ) → Contains (filter test xs) m → test m ≡ true
filter-told test [] m h = absurd (contains-none m h)
filter-told test (x ∷ xs) m h =
    ⊎_elim
    (λ (yes : test x ≡ true).
    let h' : Contains (x ∷ filter test xs) m = rw yes at h in
    ⊎_elim (λ (e : x ≡ m). rw (← e) yes) (λ (in_rest : Contains (filter test xs) m). filter-told test xs m in_rest)
    (contains-cases x m (filter test xs) h'))
    (λ (no : test x ≡ false). filter-told test xs m (rw no at h))
    (cases_Bool (test x))

keeps-first : (test : ℕ → Bool) (xs : List ℕ) (m : ℕ) → test m ≡ true → Contains (filter test (m ∷ xs)) m
keeps-first test xs m pass =
    cond_both (test m) (m ∷ filter test xs) (filter test xs) (λ (ys : List ℕ). Contains ys m)
    (λ _. contains-here m (filter test xs)) (λ no. absurd (false≢true (sym no ∙ pass)))

filter-keeps : (test : ℕ → Bool) (xs : List ℕ) (m : ℕ) → test m ≡ true → Contains xs m → Contains (filter test xs) m
filter-keeps test [] m pass h = h
filter-keeps test (x ∷ xs) m pass h =
    ⊎_elim
    (λ (e : x ≡ m).
    subst (λ (k : ℕ). Contains (filter test (k ∷ xs)) m) (sym e) (keeps-first test xs m pass))
    (λ (in_rest : Contains xs m).
    let rest = filter-keeps test xs m pass in_rest in
    cond_both (test x) (x ∷ filter test xs) (filter test xs) (λ (ys : List ℕ). Contains ys m)
    (λ _. contains-there x m (filter test xs) rest) (λ _. rest))
    (contains-cases x m xs h)

contains-range : (n m : ℕ) → m < n → Contains (range_with_len 0 n) m
contains-range n m below =
    (m, rw (length-range_with_len 0 n) below, get_or-range_with_len 0 n m m below ∙ (let e : 0 + m ≡ m = omega arith in e))

-- the numbers below a bound that pass are listed: those of which something holds, where the test tells it
pub numbers-lists : (test : ℕ → Bool) (n : ℕ) (Holds : ℕ → Type 0) → ((m : ℕ) → test m ≡ true → Holds m)
    → ((m : ℕ) → Holds m → (m < n) × (test m ≡ true)) → Lists Holds (numbers_of test n)
numbers-lists test n Holds sound whole = record {
  ascending = ascend-filter test 0 n;
  exactly = λ m. (
    (λ there. sound m (filter-told test (range_with_len 0 n) m there)),
    (λ holds. filter-keeps test (range_with_len 0 n) m (whole m holds).1 (contains-range n m (whole m holds).0)),
  );
}

-- what follows from what is said of an answer is said of it too
pub ok-then : {T E : Type 0} (P Q : T → Type 0) (r : Result T E) → ((x : T) → P x → Q x) → IfOk r P → IfOk r Q
ok-then P Q (Ok x) step h = step x h
ok-then P Q (Err e) step h = tt
