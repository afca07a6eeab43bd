-- The text of a string and its origins, as they are written.
use Rattle.std.proofs.Common.{◌≡◌, ℕ, zero, suc, ◌+◌, ◌<◌, Bool, true, false, List, [], ◌∷◌, ◌++◌, length, drop, get_or, refl, ap, sym, ◌∙◌, append_assoc, arith}
use Rattle.std.specs.Prelude.{Option, Some, None, slice_get}
use Rattle.std.specs.List.{flat_map}
use Rattle.std.specs.Option.{option_and_then}
use Rattle.std.proofs.lemmas.List.{drop_more}
use Rattle.cs_base.specs.declared.positions.Pos.{Pos}
use Rattle.cs_base.specs.declared.tokens.Kind.{Kind}
use Rattle.paste_origin.specs.Strings.{is_quoted, needs_backslash, escaped, escaped_origins, origins_along}

-- ---- tokens that get no backslash

plain_character : (kind : Kind) (c : ℕ) → is_quoted kind ≡ false → escaped kind c ≡ c ∷ []
plain_character kind c plain = rw plain refl

pub plain_spelling : (kind : Kind) (cs : List ℕ) → is_quoted kind ≡ false → flat_map (escaped kind) cs ≡ cs
plain_spelling kind [] plain = refl
plain_spelling kind (c ∷ cs) plain = rw (plain_character kind c plain, plain_spelling kind cs plain) refl

plain_origin : (kind : Kind) (c : ℕ) (o : Option Pos) → is_quoted kind ≡ false → escaped_origins kind c o ≡ o ∷ []
plain_origin kind c o plain = rw plain refl

pub plain_origins : (kind : Kind) (cs : List ℕ) (os : List (Option Pos)) → is_quoted kind ≡ false → length os ≡ length cs → origins_along kind cs os ≡ os
unfolding origins_along
plain_origins kind [] [] plain same = refl
plain_origins kind [] (o ∷ os) plain same = absurd (omega (arith, same))
plain_origins kind (c ∷ cs) [] plain same = absurd (omega (arith, same))
plain_origins kind (c ∷ cs) (o ∷ os) plain same = rw (plain_origin kind c o plain, plain_origins kind cs os plain (omega (arith, same))) refl

-- ---- character by character

pub origin_there : (os : List (Option Pos)) (k : ℕ) → option_and_then (λ (o : Option Pos). o) (slice_get os k) ≡ get_or os k None
origin_there [] k = refl
origin_there (o ∷ os) zero = refl
origin_there (o ∷ os) (suc k) = origin_there os k

pub spelling_on : (kind : Kind) (cs : List ℕ) (k : ℕ) → k < length cs
    → flat_map (escaped kind) (drop k cs) ≡ escaped kind (get_or cs k 0) ++ flat_map (escaped kind) (drop (k + 1) cs)
spelling_on kind cs k within = ap (flat_map (escaped kind)) (drop_more cs k 0 within)

pub origins_on : (kind : Kind) (cs : List ℕ) (os : List (Option Pos)) (k : ℕ) → k < length cs → length os ≡ length cs
    → origins_along kind (drop k cs) (drop k os) ≡ escaped_origins kind (get_or cs k 0) (get_or os k None) ++ origins_along kind (drop (k + 1) cs) (drop (k + 1) os)
unfolding origins_along
origins_on kind cs os k within same = rw (drop_more cs k 0 within, drop_more os k None (omega (arith, same))) refl

-- what is written, and what is still to be written
pub goes_on : {X : Type 0} (now then_ more rest left all : List X) → now ++ left ≡ all → left ≡ more ++ rest → then_ ≡ now ++ more → then_ ++ rest ≡ all
goes_on now then_ more rest left all so on is =
    ap (λ (xs : List _). xs ++ rest) is ∙ append_assoc now more rest ∙ sym (ap (λ (xs : List _). now ++ xs) on) ∙ so
