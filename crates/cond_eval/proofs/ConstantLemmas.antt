-- Lemmas on the digits of constants.
use Rattle.std.proofs.Common.{◌≡◌, ℕ, zero, suc, ◌+◌, ◌-◌, ◌*◌, ◌≢◌, true, false, ◌^◌, ◌<◌, ◌≤◌, inl, inr, Some, None, List, [], ◌∷◌, length, get_or, drop, refl, sym, ◌∙◌, arith, add-one, sub-one}
use Rattle.std.proofs.Math.Nat.{mul-le-mul_left, pow-le-pow_right}
use Rattle.std.proofs.Math.Seq.{drop-cons}
use Rattle.std.proofs.lemmas.List.{at_drop_all}
use Rattle.std.proofs.lemmas.Bool.{cases_lt}
use Rattle.std.proofs.lemmas.Bool.Decides.{nat_tests}
use Rattle.cond_eval.specs.CharConstant.{element, is_closing, elements_onto, room_of}
use Rattle.cond_eval.specs.IntegerConstant.{digit_of, digits_onto, word_of}

-- a number that is below 2^64
pub word_of-some : (n v : ℕ) → word_of n ≡ Some v → v ≡ n
word_of-some n v e = elim (cases_lt n (2 ^ 64)) [ inl below ↦ grind (arith, nat_tests) | inr above ↦ grind (arith, nat_tests) ]

pub word_of-some_below : (n v : ℕ) → word_of n ≡ Some v → v < 2 ^ 64
word_of-some_below n v e = elim (cases_lt n (2 ^ 64)) [ inl below ↦ grind (arith, nat_tests) | inr above ↦ grind (arith, nat_tests) ]

-- a number that is not
pub word_of-none : (n : ℕ) → word_of n ≡ None → 2 ^ 64 ≤ n
word_of-none n e = elim (cases_lt n (2 ^ 64)) [ inl below ↦ grind (arith, nat_tests) | inr above ↦ above ]

pub word_of-large : (n : ℕ) → 2 ^ 64 ≤ n → word_of n ≡ None
word_of-large n h = grind (arith, nat_tests)

pub word_of-small : (n : ℕ) → n < 2 ^ 64 → word_of n ≡ Some n
word_of-small n h = grind (arith, nat_tests)

-- one more digit of what is left of the text
pub digits_onto-drop : (base sofar : ℕ) (cs : List ℕ) (i : ℕ) → i < length cs
    → digits_onto base sofar (drop i cs) ≡ digits_onto base (sofar * base + digit_of (get_or cs i 0)) (drop (i + 1) cs)
unfolding digits_onto
digits_onto-drop base sofar cs i h = rw (add-one, drop-cons cs i 0) refl

-- more digits make no smaller number
pub le-digits_onto : (base sofar : ℕ) (cs : List ℕ) → 0 < base → sofar ≤ digits_onto base sofar cs
unfolding digits_onto
le-digits_onto base sofar [] h = omega arith
le-digits_onto base sofar (c ∷ cs) h =
    let more = le-digits_onto base (sofar * base + digit_of c) cs h in
    let product = mul-le-mul_left sofar h in
    omega (arith, more, product)

-- one more digit that fits
pub digits_onto-more : (base sofar v total : ℕ) (cs : List ℕ) (i : ℕ) → i < length cs
    → word_of (sofar * base + digit_of (get_or cs i 0)) ≡ Some v
    → digits_onto base sofar (drop i cs) ≡ total → digits_onto base v (drop (i + 1) cs) ≡ total
digits_onto-more base sofar v total cs i inside fits whole =
    let step = digits_onto-drop base sofar cs i inside in
    let same : v ≡ sofar * base + digit_of (get_or cs i 0) = word_of-some _ _ fits in
    rw (same, ← step) whole

-- one more digit that does not fit
pub digits_onto-past : (base sofar total : ℕ) (cs : List ℕ) (i : ℕ) → 0 < base → i < length cs
    → word_of (sofar * base + digit_of (get_or cs i 0)) ≡ None
    → digits_onto base sofar (drop i cs) ≡ total → word_of total ≡ None
digits_onto-past base sofar total cs i positive inside past whole =
    let step = digits_onto-drop base sofar cs i inside in
    let least = le-digits_onto base (sofar * base + digit_of (get_or cs i 0)) (drop (i + 1) cs) positive in
    let large = word_of-none _ past in
    word_of-large total (omega (arith, step, least, large, whole))

-- no more digits
pub digits_onto-all : (base v total : ℕ) (cs : List ℕ) (i : ℕ) → length cs ≤ i → v < 2 ^ 64
    → digits_onto base v (drop i cs) ≡ total → Some v ≡ word_of total
unfolding digits_onto
digits_onto-all base v total cs i end small whole =
    let none = at_drop_all (digits_onto base v) cs i end in
    let same : v ≡ total = sym none ∙ whole in
    rw (← same) (sym (word_of-small v small))

-- the closing quote
pub elements_onto-closing : (left sofar : ℕ) (text : List ℕ) → is_closing text ≡ true → elements_onto left sofar text ≡ Some sofar
unfolding elements_onto
elements_onto-closing zero sofar text closing = rw closing refl
elements_onto-closing (suc left) sofar text closing = rw closing refl

-- something else where no element may come
pub elements_onto-none : (left sofar : ℕ) (text : List ℕ) → is_closing text ≡ false → left ≡ 0 → elements_onto left sofar text ≡ None
unfolding elements_onto
elements_onto-none zero sofar text more none = rw more refl
elements_onto-none (suc left) sofar text more none = absurd (omega arith)

-- no element where one may come
pub elements_onto-bad : (left sofar : ℕ) (text : List ℕ) → is_closing text ≡ false → element text ≡ None → elements_onto left sofar text ≡ None
unfolding elements_onto
elements_onto-bad zero sofar text more bad = rw more refl
elements_onto-bad (suc left) sofar text more bad = rw (more, bad) refl

-- one more element
pub elements_onto-more : (left sofar value len : ℕ) (text : List ℕ) → is_closing text ≡ false → left ≢ 0 → element text ≡ Some (value, len)
    → elements_onto left sofar text ≡ elements_onto (left - 1) (sofar * 256 + value) (drop len text)
unfolding elements_onto
elements_onto-more zero sofar value len text more some one = absurd (some refl)
elements_onto-more (suc left) sofar value len text more some one = rw (more, one, sub-one) refl

-- the value so far leaves room for one more element
pub room_of-less : (left sofar value : ℕ) → 0 < left → left ≤ 4 → sofar < room_of left → value < 256
    → sofar * 256 + value < room_of (left - 1)
room_of-less zero sofar value positive few room small = absurd (omega arith)
room_of-less (suc zero) sofar value positive few room small = omega arith
room_of-less (suc (suc zero)) sofar value positive few room small = omega arith
room_of-less (suc (suc (suc zero))) sofar value positive few room small = omega arith
room_of-less (suc (suc (suc (suc zero)))) sofar value positive few room small = omega arith
room_of-less (suc (suc (suc (suc (suc n))))) sofar value positive few room small = absurd (omega arith)

pub room_of-small : (left : ℕ) → room_of left ≤ 2 ^ 32
room_of-small left = pow-le-pow_right {n = 2} (omega arith) {i = 8 * (4 - left)} {j = 32} (omega arith)
