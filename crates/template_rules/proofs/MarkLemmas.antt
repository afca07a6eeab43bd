-- Tokens at the same positions.
use Rattle.std.proofs.Common.{◌≡◌, ℕ, zero, suc, ◌+◌, ◌<◌, ◌≤◌, Bool, true, false, List, [], ◌∷◌, ◌++◌, length, get_or, take, refl, sym, ap, ◌∙◌, arith}
use Rattle.std.proofs.Math.Bool.{and-false}
use Rattle.std.proofs.lemmas.Bool.{and_parts}
use Rattle.std.proofs.lemmas.List.{take_all}
use Rattle.cs_base.specs.Token.{Token}
use Rattle.template_rules.specs.Functions.{origin_of}
use Rattle.template_rules.specs.MacroOffences.{is_same, are_same}

module _ (toks others : List Token) where
  pub same_lengths : (js ks : List ℕ) → (length js ≡ length ks → ⊥) → are_same toks others js ks ≡ false
  same_lengths [] [] apart = absurd (apart refl)
  same_lengths [] (k ∷ ks) apart = refl
  same_lengths (j ∷ js) [] apart = refl
  same_lengths (j ∷ js) (k ∷ ks) apart =
      rw (same_lengths js ks (λ e. apart (omega (arith, e)))) (and-false (is_same (origin_of toks j) (origin_of others k)))

  pub same_at : (js ks : List ℕ) (i d e : ℕ) → i < length js → i < length ks
      → is_same (origin_of toks (get_or js i d)) (origin_of others (get_or ks i e)) ≡ false → are_same toks others js ks ≡ false
  same_at [] ks i d e lt lu here = absurd (omega (arith, lt))
  same_at (j ∷ js) [] i d e lt lu here = refl
  same_at (j ∷ js) (k ∷ ks) zero d e lt lu here = rw here refl
  same_at (j ∷ js) (k ∷ ks) (suc i) d e lt lu here =
      rw (same_at js ks i d e (omega (arith, lt)) (omega (arith, lu)) here) (and-false (is_same (origin_of toks j) (origin_of others k)))

  pub same_more : (js ks : List ℕ) (i d e : ℕ) → i < length js → i < length ks
      → is_same (origin_of toks (get_or js i d)) (origin_of others (get_or ks i e)) ≡ true
      → are_same toks others (take i js) (take i ks) ≡ true → are_same toks others (take (i + 1) js) (take (i + 1) ks) ≡ true
  same_more [] ks i d e lt lu here before = absurd (omega (arith, lt))
  same_more (j ∷ js) [] i d e lt lu here before = absurd (omega (arith, lu))
  same_more (j ∷ js) (k ∷ ks) zero d e lt lu here before = rw here refl
  same_more (j ∷ js) (k ∷ ks) (suc i) d e lt lu here before =
      let on : suc i + 1 ≡ suc (i + 1) = omega arith in
      let p = and_parts (is_same (origin_of toks j) (origin_of others k)) (are_same toks others (take i js) (take i ks)) before in
      let more = same_more js ks i d e (omega (arith, lt)) (omega (arith, lu)) here p.1 in
      rw (on, p.0) more

  pub same_all : (js ks : List ℕ) (i : ℕ) → length js ≤ i → length ks ≤ i
      → are_same toks others (take i js) (take i ks) ≡ true → are_same toks others js ks ≡ true
  same_all js ks i past pasu before = rw (← take_all i js past, ← take_all i ks pasu) before
