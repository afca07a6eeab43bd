-- The new spelling of a token, character by character.
use Rattle.std.proofs.Common.{◌≡◌, ℕ, ◌+◌, Bool, false, ◌<◌, ◌≤◌, List, [], ◌∷◌, ◌++◌, length, drop, get_or, Option, Some, None, is_some, refl, sym, ap, ◌∙◌, append_assoc, append-nil, arith}
use Rattle.std.specs.List.{list_any}
use Rattle.std.specs.Option.{option_map_or, option_and_then}
use Rattle.std.proofs.lemmas.Bool.{or_parts}
use Rattle.std.proofs.lemmas.List.{drop_more, drop_all}
use Rattle.std.proofs.lemmas.Option.{slice_get-get_or}
use Rattle.cs_base.specs.declared.positions.Part.{Part}
use Rattle.cs_base.specs.declared.positions.Pos.{Pos}
use Rattle.cs_base.specs.Token.{Token, IsToken, origin_at}
use Rattle.offences.specs.Tokens.{holds_member}
use Rattle.part_respell.specs.Respelled.{member_over, put_for, put_in, spelled, spelled_from}

-- ---- what holds no member stays

-- the character comes from a member
abbrev pub is_from : List Part → Option Pos → Bool
is_from members origin = is_some (option_and_then (member_over members) origin)

put_kept : (name : List ℕ) (p : Pos) (c : ℕ) (o : Option Part) → is_some o ≡ false → option_map_or (put_in name p) o (c ∷ []) ≡ c ∷ []
put_kept name p c None none = refl
put_kept name p c (Some m) none = absurd (cc)

pub for_kept : (members : List Part) (name : List ℕ) (origin : Option Pos) (c : ℕ) → is_from members origin ≡ false → put_for members name origin c ≡ c ∷ []
for_kept members name None c none = refl
for_kept members name (Some p) c none = put_kept name p c (member_over members p) none

-- a text that holds no member stays
pub spelled-kept : (members : List Part) (name : List ℕ) (origins : List (Option Pos)) (text : List ℕ) → length origins ≡ length text
    → list_any (is_from members) origins ≡ false → spelled_from members name origins text ≡ text
unfolding spelled_from
spelled-kept members name [] [] same none = refl
spelled-kept members name [] (c ∷ text) same none = absurd (omega (arith, same))
spelled-kept members name (o ∷ origins) [] same none = refl
spelled-kept members name (o ∷ origins) (c ∷ text) same none =
    let both = or_parts (is_from members o) (list_any (is_from members) origins) none in
    let rest = spelled-kept members name origins text (omega (arith, same)) both.1 in
    rw (for_kept members name o c both.0, rest) refl

pub held_none : (members : List Part) (name : List ℕ) (t : Token) → IsToken t → holds_member members t ≡ false → spelled members name t ≡ t.text
held_none members name t is free = spelled-kept members name t.origins t.text is.each free

-- ---- character by character

spelled-none : (members : List Part) (name : List ℕ) (origins : List (Option Pos)) → spelled_from members name origins [] ≡ []
unfolding spelled_from
spelled-none members name [] = refl
spelled-none members name (o ∷ origins) = refl

module _ (members : List Part) (name : List ℕ) (t : Token) (text : List ℕ) (out : List ℕ) (k : ℕ) where
  pub spelled_next : text ≡ t.text → IsToken t → k < length text
      → out ++ spelled_from members name (drop k t.origins) (drop k t.text) ≡ spelled members name t
      → (out ++ put_for members name (origin_at t k) (get_or text k 0)) ++ spelled_from members name (drop (k + 1) t.origins) (drop (k + 1) t.text) ≡ spelled members name t
  unfolding spelled_from
  spelled_next same is within so_far =
      let size : length text ≡ length t.text = ap length same in
      let inside : k < length t.text = omega (arith, within, size) in
      let traced : k < length t.origins = omega (arith, inside, is.each) in
      let origin : origin_at t k ≡ get_or t.origins k None = rw (slice_get-get_or t.origins k None traced) refl in
      let later = spelled_from members name (drop (k + 1) t.origins) (drop (k + 1) t.text) in
      let made : out ++ (put_for members name (get_or t.origins k None) (get_or t.text k 0) ++ later) ≡ spelled members name t =
      rw (drop_more t.origins k None traced, drop_more t.text k 0 inside) at so_far in
      rw (origin, same) (append_assoc out (put_for members name (get_or t.origins k None) (get_or t.text k 0)) later ∙ made)

  pub spelled_end : text ≡ t.text → length text ≤ k
      → out ++ spelled_from members name (drop k t.origins) (drop k t.text) ≡ spelled members name t → out ≡ spelled members name t
  unfolding spelled_from
  spelled_end same past so_far =
      let size : length text ≡ length t.text = ap length same in
      let none : drop k t.text ≡ [] = drop_all k t.text (omega (arith, past, size)) in
      let made : out ++ spelled_from members name (drop k t.origins) [] ≡ spelled members name t = rw none at so_far in
      sym (append-nil out) ∙ ap (λ (rest : List ℕ). out ++ rest) (sym (spelled-none members name (drop k t.origins))) ∙ made
