-- Punctuators with which no other one begins, and those behind which none goes on.
use Rattle.std.proofs.Common.{◌≡◌, ℕ, Bool, true, false, not, ◌||◌, ◌&&◌, ◌==◌, if◌then◌else◌, List, [], ◌∷◌, refl, sym, ap, subst, ◌∙◌, inl, inr}
use Rattle.std.specs.List.{list_all}
use Rattle.std.proofs.lemmas.Bool.{cases_Bool, eqb-true, false≢true, and_parts}
use Rattle.lexer.specs.Front.{begins_with, begins_with_one, is_alone_before, is_lone_sign, is_open_sign, is_second_sign, punctuator_length}
use Rattle.lexer.specs.Spelling.{punctuators_of_one, punctuators_of_two, punctuators_of_three, punctuators_of_four}

-- the character is one of these, or this one
is_or : (P : ℕ → Type 0) (c s : ℕ) (others : Bool) → (others ≡ true → P c) → P s → (others || c == s) ≡ true → P c
is_or P c s true there here one = there refl
is_or P c s false there here one = subst P (sym (eqb-true c s one)) here

is_first : (P : ℕ → Type 0) (c s : ℕ) → P s → (c == s) ≡ true → P c
is_first P c s here is = subst P (sym (eqb-true c s is)) here

pub lone_sign_length : (c : ℕ) (cs : List ℕ) → is_lone_sign c ≡ true → punctuator_length (c ∷ cs) ≡ 1
unfolding punctuator_length
lone_sign_length c cs =
    let P : ℕ → Type 0 = λ s. punctuator_length (s ∷ cs) ≡ 1 in
    let to_41 = is_or P c 41 _ (is_first P c 40 refl) refl in
    let to_91 = is_or P c 91 _ to_41 refl in
    let to_93 = is_or P c 93 _ to_91 refl in
    let to_123 = is_or P c 123 _ to_93 refl in
    let to_125 = is_or P c 125 _ to_123 refl in
    let to_44 = is_or P c 44 _ to_125 refl in
    let to_59 = is_or P c 59 _ to_44 refl in
    let to_126 = is_or P c 126 _ to_59 refl in
    is_or P c 63 _ to_126 refl

-- ---- A second character that no punctuator has

-- the word has two characters or more, of which the second is a sign
abbrev is_longer : List ℕ → Bool
is_longer [] = false
is_longer (a ∷ []) = false
is_longer (a ∷ (b ∷ ws)) = is_second_sign b

second_apart : (b d : ℕ) → is_second_sign b ≡ true → is_second_sign d ≡ false → (d == b) ≡ false
second_apart b d there none = elim (cases_Bool (d == b)) [
  | inl same ↦ absurd (false≢true (sym none ∙ ap is_second_sign (eqb-true d b same) ∙ there))
  | inr apart ↦ apart
]

longer_apart : (word : List ℕ) (c d : ℕ) (cs : List ℕ) → is_longer word ≡ true → is_second_sign d ≡ false → begins_with word (c ∷ (d ∷ cs)) ≡ false
longer_apart [] c d cs longer none = absurd (false≢true longer)
longer_apart (a ∷ []) c d cs longer none = absurd (false≢true longer)
longer_apart (a ∷ (b ∷ ws)) c d cs longer none = first (c == a)
  where
    first : (x : Bool) → (x && ((d == b) && begins_with ws cs)) ≡ false
    first false = refl
    first true = ap (λ y. y && begins_with ws cs) (second_apart b d longer none)

none_begins : (words : List (List ℕ)) (c d : ℕ) (cs : List ℕ) → list_all is_longer words ≡ true → is_second_sign d ≡ false
    → begins_with_one words (c ∷ (d ∷ cs)) ≡ false
none_begins [] c d cs longer none = refl
none_begins (w ∷ words) c d cs longer none =
    let both = and_parts (is_longer w) (list_all is_longer words) longer in
    ap (λ x. x || begins_with_one words (c ∷ (d ∷ cs))) (longer_apart w c d cs both.0 none) ∙ none_begins words c d cs both.1 none

one_begins : (c : ℕ) (cs : List ℕ) → is_open_sign c ≡ true → begins_with_one punctuators_of_one (c ∷ cs) ≡ true
one_begins c cs =
    let P : ℕ → Type 0 = λ s. begins_with_one punctuators_of_one (s ∷ cs) ≡ true in
    let to_38 = is_or P c 38 _ (is_first P c 46 refl) refl in
    let to_42 = is_or P c 42 _ to_38 refl in
    let to_43 = is_or P c 43 _ to_42 refl in
    let to_45 = is_or P c 45 _ to_43 refl in
    let to_33 = is_or P c 33 _ to_45 refl in
    let to_47 = is_or P c 47 _ to_33 refl in
    let to_37 = is_or P c 37 _ to_47 refl in
    let to_60 = is_or P c 60 _ to_37 refl in
    let to_62 = is_or P c 62 _ to_60 refl in
    let to_94 = is_or P c 94 _ to_62 refl in
    let to_124 = is_or P c 124 _ to_94 refl in
    let to_58 = is_or P c 58 _ to_124 refl in
    let to_61 = is_or P c 61 _ to_58 refl in
    is_or P c 35 _ to_61 refl

pub open_sign_length : (c : ℕ) (cs : List ℕ) → is_open_sign c ≡ true → is_alone_before cs ≡ true → punctuator_length (c ∷ cs) ≡ 1
unfolding punctuator_length
open_sign_length c [] sign alone = absurd (false≢true alone)
open_sign_length c (d ∷ cs) sign alone = by (is_second_sign d) refl alone
  where
    by : (x : Bool) → is_second_sign d ≡ x → not x ≡ true → punctuator_length (c ∷ (d ∷ cs)) ≡ 1
    by true is alone = absurd (false≢true alone)
    by false is alone =
        ap (λ x. if x then 4 else (if begins_with_one punctuators_of_three (c ∷ (d ∷ cs)) then 3 else (if begins_with_one punctuators_of_two (c ∷ (d ∷ cs)) then 2 else (if begins_with_one punctuators_of_one (c ∷ (d ∷ cs)) then 1 else 0))))
        (none_begins punctuators_of_four c d cs refl is)
        ∙ ap (λ x. if x then 3 else (if begins_with_one punctuators_of_two (c ∷ (d ∷ cs)) then 2 else (if begins_with_one punctuators_of_one (c ∷ (d ∷ cs)) then 1 else 0)))
        (none_begins punctuators_of_three c d cs refl is)
        ∙ ap (λ x. if x then 2 else (if begins_with_one punctuators_of_one (c ∷ (d ∷ cs)) then 1 else 0))
        (none_begins punctuators_of_two c d cs refl is)
        ∙ ap (λ x. if x then 1 else 0) (one_begins c (d ∷ cs) sign)

pub alone_length : (c : ℕ) (cs : List ℕ) → (is_lone_sign c || (is_open_sign c && is_alone_before cs)) ≡ true → punctuator_length (c ∷ cs) ≡ 1
alone_length c cs = by (is_lone_sign c) refl
  where
    by : (x : Bool) → is_lone_sign c ≡ x → (x || (is_open_sign c && is_alone_before cs)) ≡ true → punctuator_length (c ∷ cs) ≡ 1
    by true lone some = lone_sign_length c cs lone
    by false lone some = let both = and_parts (is_open_sign c) (is_alone_before cs) some in open_sign_length c cs both.0 both.1
