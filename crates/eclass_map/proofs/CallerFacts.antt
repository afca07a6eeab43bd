-- What a caller of `add_token`, `join` and `resize` has to show.
use Rattle.std.proofs.Common.{◌≡◌, ℕ, ◌+◌, ◌*◌, ◌<◌, ◌≤◌, ◌^◌, length, ap, ◌⊎◌, List, [], ◌∷◌, ◌++◌, zero, suc, sym, ◌∙◌, inl, inr, arith, subst, Option, Some}
use Rattle.std.specs.Prelude.{slice_get}
use Rattle.std.proofs.lemmas.Option.{none-some, same_Some}
use Rattle.cs_base.specs.declared.positions.Pos.{Pos}
use Rattle.cs_base.specs.declared.positions.Part.{Part}
use Rattle.class_labels.specs.Labels.{no_labels}
use Rattle.std.proofs.Math.Nat.{mul-le-mul_right}
use Rattle.std.proofs.lemmas.List.Sums.{count_by-le-length}
use Rattle.eclass_map.specs.Positions.{along, end_of, Before}
use Rattle.eclass_map.specs.Resized.{begins_before, members_before, moved_to, count_after}
use Rattle.eclass_map.specs.ClassTable.{Table, members_of, added_tokens, character_count, IsAdded, IsFree, AddsToken, AreWhole, positions}
use Rattle.eclass_map.proofs.TokenFacts.{holding}
use Rattle.eclass_map.proofs.KeptFacts.{table_of}
use Rattle.eclass_map.proofs.LinkLaws.{label_none}

-- the empty table holds no character
pub free_empty : (part : Part) → IsFree (table_of [] [] no_labels) part
free_empty part o less held = none-some held.0 (sym (label_none (along part.start o)) ∙ held.1)

-- a token that was added elsewhere takes no character
pub free_apart : (token part : Part) (old new : Table) → AddsToken token old new → IsFree old part → Before token part ⊎ Before part token → IsFree new part
free_apart token part old new adds free apart o less held = elim (adds.rest (along part.start o) held.0 held.1) [
  | inl before ↦ free o less (held.0, before)
  | inr inside ↦
      let h = holding token (along part.start o) inside in
      let file = h.file in
      let from = h.from in
      let within = h.less in
      elim apart [
        | inl first ↦ elim first [ inl f ↦ omega arith | inr f ↦ let g = f.1 in omega arith ]
        | inr second ↦ elim second [ inl f ↦ omega arith | inr f ↦ let g = f.1 in omega arith ]
      ]
]

added_only : (t : Table) (a : Part) → IsAdded t a → (k : ℕ) (token : Part) → slice_get (a ∷ []) k ≡ Some token → IsAdded t token
added_only t a is zero token at = let P : Part → Type 0 = λ v. IsAdded t v in subst P (same_Some a token at) is
added_only t a is (suc k) token at = absurd (none-some token at)

-- the origins of one added token
pub whole_one : (t : Table) (a : Part) (origins : List (Option Pos)) → IsAdded t a → origins ≡ positions a.start a.len ++ [] → AreWhole t origins
whole_one t a origins is e = record { tokens = a ∷ []; added = added_only t a is; each = e }

added_both : (t : Table) (a b : Part) → IsAdded t a → IsAdded t b → (k : ℕ) (token : Part) → slice_get (a ∷ b ∷ []) k ≡ Some token → IsAdded t token
added_both t a b is_a is_b zero token at = let P : Part → Type 0 = λ v. IsAdded t v in subst P (same_Some a token at) is_a
added_both t a b is_a is_b (suc k) token at = added_only t b is_b k token at

-- those of two, one after the other
pub whole_two : (t : Table) (a b : Part) (origins : List (Option Pos)) → IsAdded t a → IsAdded t b → origins ≡ positions a.start a.len ++ (positions b.start b.len ++ []) → AreWhole t origins
whole_two t a b origins is_a is_b e = record { tokens = a ∷ b ∷ []; added = added_both t a b is_a is_b; each = e }

-- another length leaves few characters
pub few_after : (c m most : ℕ) (t : Table) → length (members_of t c) ≤ most → character_count t + most * m < 2 ^ 32 → count_after c m t < 2 ^ 32
few_after c m most t few short = let le = mul-le-mul_right m few in omega arith

-- and no token ends too far on
pub near_after : (c m most : ℕ) (t : Table) → length (members_of t c) ≤ most → ((token : Part) → IsAdded t token → token.start.at + token.len + most * m < 2 ^ 32)
    → (token : Part) → IsAdded t token → (moved_to c m t (end_of token)).at < 2 ^ 32
near_after c m most t few near token added =
    let before : members_before c t (end_of token) ≤ length (members_of t c) = count_by-le-length (begins_before (end_of token)) (members_of t c) in
    let le = mul-le-mul_right m before in
    let also = mul-le-mul_right m few in
    let fits = near token added in
    omega arith

-- a token that was added before, or this one
pub near_added : (token : Part) (old new : Table) (n : ℕ) → AddsToken token old new → ((other : Part) → IsAdded old other → other.start.at + other.len ≤ n) → token.start.at + token.len ≤ n → (other : Part) → IsAdded new other → other.start.at + other.len ≤ n
near_added token old new n adds near here other added = elim (adds.only other added) [
  | inl before ↦ near other before
  | inr e ↦ let at = ap (λ (p : Part). p.start.at + p.len) e in omega arith
]

-- no token in an empty table
pub near_empty : (n : ℕ) (other : Part) → IsAdded (table_of [] [] no_labels) other → other.start.at + other.len ≤ n
near_empty n other added = absurd (none-some other added.1)

-- tokens stay where they were
pub near_kept : (old new : Table) (n : ℕ) → added_tokens new ≡ added_tokens old → ((other : Part) → IsAdded old other → other.start.at + other.len ≤ n) → (other : Part) → IsAdded new other → other.start.at + other.len ≤ n
near_kept old new n e near other added = near other (added.0, sym (ap (λ v. slice_get v added.0) e) ∙ added.1)
