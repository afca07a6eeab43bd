-- Members that the characters of a token come from.
use Rattle.std.proofs.Common.{◌≡◌, true, false, inl, inr, ℕ, zero, suc, ◌+◌, ◌-◌, ◌<◌, ◌≤◌, Bool, List, [], ◌∷◌, length, take, get_or, Option, Some, None, refl, sym, ap, ◌∙◌, arith}
use Rattle.std.specs.Prelude.{◌||◌, is_some}
use Rattle.std.specs.List.{list_any}
use Rattle.std.proofs.Math.Bool.{or-false}
use Rattle.std.proofs.lemmas.Bool.{cases_Bool}
use Rattle.std.proofs.lemmas.List.Folds.{list_any-append}
use Rattle.std.proofs.lemmas.List.{take_more, take_all}
use Rattle.std.proofs.lemmas.Option.{slice_get-get_or}
use Rattle.cs_base.specs.declared.positions.Part.{Part}
use Rattle.cs_base.specs.declared.positions.Pos.{Pos}
use Rattle.cs_base.specs.Token.{IsToken, Token, origin_at}
use Rattle.analysis.specs.FileTokens.{numbers_brought}
use Rattle.offences.specs.Class.{IsFree}
use Rattle.offences.specs.Tokens.{holds_member, member_of}

no_any : (p : Option Pos → Bool) (xs : List (Option Pos)) → ((k : ℕ) → k < length xs → p (get_or xs k None) ≡ false) → list_any p xs ≡ false
no_any p [] none = refl
no_any p (x ∷ xs) none = rw (none zero (omega arith)) (no_any p xs (λ k within. none (suc k) (omega (arith, within))))

module _ (members : List Part) (t : Token) where
  abbrev is_from : Option Pos → Bool
  is_from origin = is_some (member_of members origin)

  origin_is : (k : ℕ) → k < length t.origins → origin_at t k ≡ get_or t.origins k None
  origin_is k within = rw (slice_get-get_or t.origins k None within) refl

  take_next : (k : ℕ) → k < length t.origins → list_any is_from (take (k + 1) t.origins) ≡ (list_any is_from (take k t.origins) || is_from (origin_at t k))
  take_next k within =
      ap (list_any is_from) (take_more t.origins k None within)
      ∙ list_any-append is_from (take k t.origins) (get_or t.origins k None ∷ [])
      ∙ ap (λ (b : Bool). list_any is_from (take k t.origins) || b) (or-false (is_from (get_or t.origins k None)) ∙ ap is_from (sym (origin_is k within)))

  any_front : {X : Type 0} (p : X → Bool) (xs : List X) (k : ℕ) → list_any p (take k xs) ≡ true → list_any p xs ≡ true
  any_front p xs zero h = absurd (cc)
  any_front p [] (suc k) h = h
  any_front p (x ∷ xs) (suc k) h =
      elim (cases_Bool (p x)) [
        | inl passes ↦ rw passes refl
        | inr fails ↦ rw fails (any_front p xs k (rw fails at h))
      ]

  or_last : (b c : Bool) → c ≡ true → (b || c) ≡ true
  or_last true c e = refl
  or_last false c e = e

  or_neither : (b c : Bool) → b ≡ false → c ≡ false → (b || c) ≡ false
  or_neither b c e f = rw (e, f) refl

  pub origin_any : (k : ℕ) → k < length t.origins → is_from (origin_at t k) ≡ true → holds_member members t ≡ true
  origin_any k within h =
      any_front is_from t.origins (k + 1) (take_next k within ∙ or_last (list_any is_from (take k t.origins)) (is_from (origin_at t k)) h)

  pub origin_none : (k : ℕ) → k < length t.origins → list_any is_from (take k t.origins) ≡ false → is_from (origin_at t k) ≡ false
      → list_any is_from (take (k + 1) t.origins) ≡ false
  origin_none k within before here = take_next k within ∙ or_neither (list_any is_from (take k t.origins)) (is_from (origin_at t k)) before here

  pub origins_none : (k : ℕ) → length t.origins ≤ k → list_any is_from (take k t.origins) ≡ false → holds_member members t ≡ false
  origins_none k past before = rw (← take_all k t.origins past) before

  -- Where all characters come from one file, in which no member stands, none of them comes from a member.
  pub origins_free : (first : Pos) → IsToken t → IsFree members first.file
      → ((k : ℕ) → k < length t.text → origin_at t k ≡ Some (record { file = first.file; at = first.at + k })) → holds_member members t ≡ false
  origins_free first is free starts = no_any is_from t.origins (λ k within.
      let each = is.each in
      let here = starts k (omega (arith, within, each)) in
      ap is_from (sym (origin_is k within) ∙ here) ∙ ap is_some (free (record { file = first.file; at = first.at + k }) refl))
