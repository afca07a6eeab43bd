-- The open declarators: which of them gets the names of a scope.
use Rattle.std.proofs.Common.{ℕ, zero, suc, ◌<◌, ◌≡◌, Bool, true, false, ◌==◌, List, [], ◌∷◌, length, get_or, slice_set, None, Some, position, unwrap_or, refl, sym, ap, ◌∙◌, arith, nat_lt, inl, inr}
use Rattle.std.specs.List.{position_or_len}
use borrow.Author.Tests.{ltb-false}
use Rattle.std.proofs.lemmas.Bool.{cases_Bool}
use Rattle.std.proofs.lemmas.List.Sums.{fails_before_first}
use Rattle.std.proofs.lemmas.List.Quantifiers.{position-Some}
use Rattle.cs_base.proofs.OptionLemmas.{None≢Some}
use Rattle.c99_read.specs.declared.names.Declaration.{Declaration}
use Rattle.c99_read.specs.State.{Head, given_names}

fails_all : (p : Head → Bool) (xs : List Head) (d : Head) → position p xs ≡ None → (k : ℕ) → k < length xs → p (get_or xs k d) ≡ false
fails_all p xs d none k within =
    elim (cases_Bool (nat_lt (position_or_len p xs) (length xs))) [
      | inl below ↦ absurd (None≢Some _ (sym (rw below at none)))
      | inr past ↦ fails_before_first p xs k d (omega (arith, ltb-false _ _ past))
    ]

given_names-first : (count : ℕ) (names : List Declaration) (heads : List Head) (k : ℕ) (d : Head) → k < length heads
    → ((get_or heads k d).scopes_open == count) ≡ true → ((j : ℕ) → j < k → ((get_or heads j d).scopes_open == count) ≡ false)
    → given_names count names heads
    ≡ slice_set heads k (record (get_or heads k d) { given = Some (unwrap_or (get_or heads k d).given names) })
given_names-first count names [] k d within hit before = absurd (omega arith)
given_names-first count names (h ∷ more) zero d within hit before = rw hit refl
given_names-first count names (h ∷ more) (suc k) d within hit before =
    rw (before 0 (omega arith)) (ap (λ m. h ∷ m) (given_names-first count names more k d (omega arith) hit (λ j below. before (suc j) (omega arith))))

pub given_names-at : (count : ℕ) (names : List Declaration) (heads : List Head) (k : ℕ) (d : Head)
    → position (λ h. h.scopes_open == count) heads ≡ Some k
    → given_names count names heads
    ≡ slice_set heads k (record (get_or heads k d) { given = Some (unwrap_or (get_or heads k d).given names) })
given_names-at count names heads k d found =
    let at = position-Some (λ h. h.scopes_open == count) heads k d found in
    given_names-first count names heads k d at.0 at.1 at.2

given_names-miss : (count : ℕ) (names : List Declaration) (heads : List Head) (d : Head)
    → ((k : ℕ) → k < length heads → ((get_or heads k d).scopes_open == count) ≡ false) → given_names count names heads ≡ heads
given_names-miss count names [] d fails = refl
given_names-miss count names (h ∷ more) d fails =
    rw (fails 0 (omega arith)) (ap (λ m. h ∷ m) (given_names-miss count names more d (λ k within. fails (suc k) (omega arith))))

pub given_names-none : (count : ℕ) (names : List Declaration) (heads : List Head)
    → position (λ h. h.scopes_open == count) heads ≡ None → given_names count names heads ≡ heads
given_names-none count names heads none =
    given_names-miss count names heads (record { scopes_open = 0; given = None })
    (fails_all (λ h. h.scopes_open == count) heads (record { scopes_open = 0; given = None }) none)

-- the declarator with the names is the one that was found
pub given_names-kept : (count : ℕ) (names : List Declaration) (heads : List Head) (k : ℕ) (old new : Head)
    → position (λ h. h.scopes_open == count) heads ≡ Some k → old ≡ get_or heads k old
    → new ≡ record old { given = Some (unwrap_or old.given names) } → slice_set heads k new ≡ given_names count names heads
given_names-kept count names heads k old new found held written =
    let given : Head → Head = λ h. record h { given = Some (unwrap_or h.given names) } in
    let same : new ≡ given (get_or heads k old) = written ∙ ap given held in
    ap (slice_set heads k) same ∙ sym (given_names-at count names heads k old found)
