-- Runs of characters: those of an identifier, and those of a pp-number.
use Rattle.std.proofs.Common.{◌≡◌, ℕ, zero, suc, ◌<◌, ◌≤◌, Bool, true, false, ◌&&◌, ◌||◌, ◌==◌, List, [], ◌∷◌, length, take, inl, inr, refl, arith, one-add}
use Rattle.std.proofs.lemmas.Bool.{cases_Bool}
use Rattle.std.proofs.lemmas.Bool.Decides.{nat_tests}
use Rattle.std.specs.List.{list_all, prefix_len}
use Rattle.lexer.specs.Characters.{full_stop, is_digit}
use Rattle.lexer.specs.Spelling.{may_follow, all_follow, begins_with_digit, begins_number}
use Rattle.lexer.specs.Front.{count_following}

-- the characters of a run of words are words
pub list_all-prefix : (p : ℕ → Bool) (cs : List ℕ) → list_all p (take (prefix_len p cs) cs) ≡ true
list_all-prefix p [] = refl
list_all-prefix p (c ∷ cs) =
    elim (cases_Bool (p c)) [
      | inl passes ↦ rw (passes, one-add, passes) (list_all-prefix p cs)
      | inr stops ↦ rw stops refl
    ]

-- a longer front has a character that is none
pub list_all-longer : (p : ℕ → Bool) (cs : List ℕ) (k : ℕ) → prefix_len p cs < k → k ≤ length cs → list_all p (take k cs) ≡ false
list_all-longer p [] k longer within = absurd (omega arith)
list_all-longer p (c ∷ cs) zero longer within = absurd (omega arith)
list_all-longer p (c ∷ cs) (suc k) longer within =
    elim (cases_Bool (p c)) [
      | inl passes ↦
          let after : prefix_len p cs < k = let l = rw passes at longer in omega arith in
          rw passes (list_all-longer p cs k after (omega arith))
      | inr stops ↦ rw stops refl
    ]

pub all_follow-prefix : (last : ℕ) (cs : List ℕ) → all_follow last (take (count_following last cs) cs) ≡ true
all_follow-prefix last [] = refl
all_follow-prefix last (c ∷ cs) =
    elim (cases_Bool (may_follow last c)) [
      | inl follows ↦ rw (follows, one-add, follows) (all_follow-prefix c cs)
      | inr stops ↦ rw stops refl
    ]

pub all_follow-longer : (last : ℕ) (cs : List ℕ) (k : ℕ) → count_following last cs < k → k ≤ length cs
    → all_follow last (take k cs) ≡ false
all_follow-longer last [] k longer within = absurd (omega arith)
all_follow-longer last (c ∷ cs) zero longer within = absurd (omega arith)
all_follow-longer last (c ∷ cs) (suc k) longer within =
    elim (cases_Bool (may_follow last c)) [
      | inl follows ↦
          let after : count_following c cs < k = let l = rw follows at longer in omega arith in
          rw follows (all_follow-longer c cs k after (omega arith))
      | inr stops ↦ rw stops refl
    ]

pub count_following-within : (last : ℕ) (cs : List ℕ) → count_following last cs ≤ length cs
count_following-within last [] = omega arith
count_following-within last (c ∷ cs) =
    let after = count_following-within c cs in
    elim (cases_Bool (may_follow last c)) [ inl follows ↦ rw follows (omega arith) | inr stops ↦ rw stops (omega arith) ]

-- where a character cannot follow, it is no digit
stopped-digit : (last c : ℕ) → may_follow last c ≡ false → is_digit c ≡ false
stopped-digit last c h = grind (arith, nat_tests)

one_less : (x y z : Bool) → (x || (y && z)) ≡ true → z ≡ false → (x || (y && false)) ≡ true
one_less x y z h e = grind arith

none_less : (x y z : Bool) → (x || (y && z)) ≡ false → (x || (y && false)) ≡ false
none_less x y z h = grind arith

-- a pp-number that begins a text begins its front
pub begins_number-prefix : (c : ℕ) (cs : List ℕ) → begins_number c cs ≡ true
    → begins_number c (take (count_following c cs) cs) ≡ true
begins_number-prefix c [] begins = begins
begins_number-prefix c (d ∷ ds) begins =
    elim (cases_Bool (may_follow c d)) [
      | inl follows ↦ rw (follows, one-add) begins
      | inr stops ↦ rw stops (one_less (is_digit c) (c == full_stop) (is_digit d) begins (stopped-digit c d stops))
    ]

pub begins_number-longer : (c : ℕ) (cs : List ℕ) (k : ℕ) → 1 ≤ k → begins_number c cs ≡ true → begins_number c (take k cs) ≡ true
begins_number-longer c cs zero some begins = absurd (omega arith)
begins_number-longer c [] (suc k) some begins = begins
begins_number-longer c (d ∷ ds) (suc k) some begins = begins

-- a text that begins with no pp-number has no front that does
pub begins_number-none : (c : ℕ) (cs : List ℕ) (k : ℕ) → begins_number c cs ≡ false → begins_number c (take k cs) ≡ false
begins_number-none c cs zero none = none_less (is_digit c) (c == full_stop) (begins_with_digit cs) none
begins_number-none c [] (suc k) none = none
begins_number-none c (d ∷ ds) (suc k) none = none
