-- Runs by halving.
use Rattle.std.proofs.Common.{◌≡◌, ℕ, zero, suc, ◌+◌, ◌<◌, ◌≤◌, Bool, true, false, List, [], ◌∷◌, length, refl, sym, ap, ◌∙◌, inl, inr, arith}
use Rattle.std.specs.Prelude.{◌&&◌, ◌||◌, cond, nat_le, nat_lt, count_by}
use Rattle.std.specs.List.{list_any}
use Rattle.std.specs.List.Sorted.{IsNonDecreasingBy, IsPartitionPoint}
use Rattle.std.proofs.lemmas.Bool.{cases_Bool}
use Rattle.std.proofs.lemmas.Bool.Decides.{nat_tests}
use Rattle.std.proofs.lemmas.Grind.{common_steps}
use Rattle.std.proofs.lemmas.List.Sorted.{IsNonDecreasingBy-from_all_adjacent}
use Rattle.cs_base.specs.Token.{Token}
use Rattle.analysis.specs.Below.unit_steps.declared.events.Reached.{Reached}
use Rattle.template_rules.specs.ListPlaces.{AreInOrder}
use Rattle.template_rules.specs.MacroOffences.{run_of}
use Rattle.template_rules.specs.Marks.{is_between}

abbrev pub nothing_reached : Reached
nothing_reached = record { file = 0; item = 0; evaluated = false; events = 0; before = 0 }

-- one more element
count_more : {X : Type 0} (p : X → Bool) (x : X) (xs : List X) → p x ≡ true → count_by p (x ∷ xs) ≡ suc (count_by p xs)
count_more p x xs is = grind (arith, common_steps, is)

count_same : {X : Type 0} (p : X → Bool) (x : X) (xs : List X) → p x ≡ false → count_by p (x ∷ xs) ≡ count_by p xs
count_same p x xs is = grind (arith, common_steps, is)

pub count_cut : {X : Type 0} (p : X → Bool) (xs : List X) (i : ℕ) → i ≤ length xs
    → IsPartitionPoint (λ x. p x ≡ true) (λ x. p x ≡ false) xs i → i ≡ count_by p xs
count_cut p [] zero within found = refl
count_cut p [] (suc i) within found = absurd (omega arith)
count_cut p (x ∷ xs) zero within found =
    let rest : 0 ≡ count_by p xs = count_cut p xs 0 (omega arith) (λ k d h l. absurd (omega (arith, l)), λ k d h l. found.1 (suc k) d (omega arith) (omega (arith, l))) in
    rest ∙ sym (count_same p x xs (found.1 0 x (omega arith) (omega arith)))
count_cut p (x ∷ xs) (suc i) within found =
    let rest : i ≡ count_by p xs =
    count_cut p xs i (omega (arith, within))
    (λ k d h l. found.0 (suc k) d (omega arith) (omega (arith, l)), λ k d h l. found.1 (suc k) d (omega (arith, h)) (omega (arith, l))) in
    ap suc rest ∙ sym (count_more p x xs (found.0 0 x (omega arith) (omega arith)))

-- ---- two tokens

module _ (k l : ℕ) where
  abbrev between : Reached → Bool
  between r = is_between k l r.before

  abbrev before : ℕ → Reached → Bool
  before k r = nat_le r.before k

  -- one more item: it was reached by both tokens, between them, or by none
  rise_step : (a b : ℕ) (any : Bool) (r : Reached) → k ≤ l → a ≤ b → any ≡ nat_lt a b
      → (a' b' : ℕ) → a' ≡ a + cond (before k r) 1 0 → b' ≡ b + cond (before l r) 1 0
      → (a' ≤ b') × ((between r || any) ≡ nat_lt a' b')
  rise_step a b any r on le is a' b' ea eb = elim (cases_Bool (before k r)) [
    | inl low ↦
        let high : before l r ≡ true = grind (arith, nat_tests) in
        let out : between r ≡ false = grind (arith, nat_tests) in
        (omega (arith, rw low at ea, rw high at eb), rw (out, is, ea, eb, low, high) (grind (arith, nat_tests)))
    | inr past ↦ elim (cases_Bool (before l r)) [
      | inl high ↦
          let in_ : between r ≡ true = grind (arith, nat_tests) in
          (omega (arith, rw past at ea, rw high at eb), rw (in_, ea, eb, past, high) (grind (arith, nat_tests)))
      | inr over ↦
          let out : between r ≡ false = grind (arith, nat_tests) in
          (omega (arith, rw past at ea, rw over at eb), rw (out, is, ea, eb, past, over) (grind (arith, nat_tests)))
    ]
  ]

  count_step : (p : Reached → Bool) (r : Reached) (rs : List Reached) → count_by p (r ∷ rs) ≡ count_by p rs + cond (p r) 1 0
  count_step p r rs = elim (cases_Bool (p r)) [
    | inl passes ↦ count_more p r rs passes ∙ rw passes (omega arith)
    | inr fails ↦ count_same p r rs fails ∙ rw fails (omega arith)
  ]

  -- behind a token no less was reached
  runs_rise : k ≤ l → (rs : List Reached) → (run_of rs k ≤ run_of rs l) × (list_any between rs ≡ nat_lt (run_of rs k) (run_of rs l))
  runs_rise on [] = (omega arith, refl)
  runs_rise on (r ∷ rs) =
      let rest = runs_rise on rs in
      rise_step (run_of rs k) (run_of rs l) (list_any between rs) r on rest.0 rest.1 (run_of (r ∷ rs) k) (run_of (r ∷ rs) l)
      (count_step (before k) r rs) (count_step (before l) r rs)

  none_between : l < k → (rs : List Reached) → list_any between rs ≡ false
  none_between back [] = refl
  none_between back (r ∷ rs) =
      let out : between r ≡ false = grind (arith, nat_tests) in
      rw (out, none_between back rs) refl

  fall_step : (a b : ℕ) (r : Reached) → l < k → b ≤ a → (a' b' : ℕ) → a' ≡ a + cond (before k r) 1 0 → b' ≡ b + cond (before l r) 1 0 → b' ≤ a'
  fall_step a b r back le a' b' ea eb = elim (cases_Bool (before l r)) [
    | inl low ↦
        let high : before k r ≡ true = grind (arith, nat_tests) in
        omega (arith, rw high at ea, rw low at eb)
    | inr past ↦ omega (arith, rw past at eb, ea)
  ]

  runs_fall : l < k → (rs : List Reached) → run_of rs l ≤ run_of rs k
  runs_fall back [] = omega arith
  runs_fall back (r ∷ rs) =
      fall_step (run_of rs k) (run_of rs l) r back (runs_fall back rs) (run_of (r ∷ rs) k) (run_of (r ∷ rs) l)
      (count_step (before k) r rs) (count_step (before l) r rs)

  -- something was reached between them, if more was reached before the latter
  pub across_by_runs : (rs : List Reached) → list_any between rs ≡ nat_lt (run_of rs k) (run_of rs l)
  across_by_runs rs = elim (cases_Bool (nat_le k l)) [
    | inl on ↦ (runs_rise (grind (arith, nat_tests)) rs).1
    | inr back ↦
        let less : l < k = grind (arith, nat_tests) in
        let fewer = runs_fall less rs in
        none_between less rs ∙ grind (arith, nat_tests)
  ]

-- ---- tokens in order

pub rising : (toks : List Token) → AreInOrder toks → IsNonDecreasingBy (λ (t : Token). t.at.at) toks
rising toks ordered =
    IsNonDecreasingBy-from_all_adjacent (λ (t : Token). t.at.at) toks
    (λ k d lt. let up = ordered k d (omega (arith, lt)) in grind (arith, nat_tests, up))
