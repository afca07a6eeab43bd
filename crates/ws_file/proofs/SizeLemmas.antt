-- The size of a pseudo file, line by line.
use Rattle.std.proofs.Common.{◌≡◌, ℕ, false, true, ◌+◌, ◌-◌, ◌≤◌, ◌<◌, List, [], ◌∷◌, ◌++◌, length, map, inl, inr, refl, ap, sym, ◌∙◌, arith, length-append}
use Rattle.std.specs.Prelude.{nat_le}
use Rattle.std.specs.List.{flat_map}
use Rattle.std.proofs.lemmas.Bool.{cases_Bool, leb-true, leb-false, le-leb, lt-leb}
use Rattle.std.proofs.lemmas.Grind.{flat_map-append}
use Rattle.cs_base.specs.declared.ws_units.Setting.{Setting}
use Rattle.cs_base.specs.declared.ws_units.Standard.{Standard}
use Rattle.cs_base.specs.declared.ws_units.Standard.TheVariants.{C99, C11, Gnu99, Gnu11}
use Rattle.cs_base.specs.Units.{line_feed, setting_line, include_line, ended_line, fixed_lines, defines_text, defines_fit}
use Rattle.ws_file.specs.Taking.{setting_len, include_len, lengths, fixed_len}

-- the lines of these have these lengths together
lines_len : {X : Type 0} (line : X → List ℕ) (xs : List X)
    → length (flat_map ended_line (map line xs)) ≡ lengths (λ x. length (line x) + 1) xs
lines_len line [] = refl
lines_len line (x ∷ xs) =
    length-append (ended_line (line x)) (flat_map ended_line (map line xs))
    ∙ ap (λ (n : ℕ). length (ended_line (line x)) + n) (lines_len line xs)
    ∙ ap (λ (n : ℕ). n + lengths (λ x. length (line x) + 1) xs) (length-append (line x) (line_feed ∷ []))

fixed_len-is : (s : Standard) → length (flat_map ended_line (fixed_lines s)) ≡ fixed_len s
unfolding fixed_lines
fixed_len-is C99 = refl
fixed_len-is C11 = refl
fixed_len-is Gnu99 = refl
fixed_len-is Gnu11 = refl

defines_len : (standard : Standard) (settings : List Setting) (includes : List (List ℕ))
    → length (defines_text standard settings includes) ≡ fixed_len standard + (lengths setting_len settings + lengths include_len includes)
unfolding defines_text
defines_len standard settings includes =
    let a = flat_map ended_line (map setting_line settings) in
    let b = flat_map ended_line (map include_line includes) in
    ap length (flat_map-append ended_line (fixed_lines standard) (map setting_line settings ++ map include_line includes))
    ∙ length-append (flat_map ended_line (fixed_lines standard)) (flat_map ended_line (map setting_line settings ++ map include_line includes))
    ∙ ap (λ (n : ℕ). n + length (flat_map ended_line (map setting_line settings ++ map include_line includes))) (fixed_len-is standard)
    ∙ ap (λ (text : List ℕ). fixed_len standard + length text) (flat_map-append ended_line (map setting_line settings) (map include_line includes))
    ∙ ap (λ (n : ℕ). fixed_len standard + n)
    (length-append a b ∙ ap (λ (n : ℕ). n + length b) (lines_len setting_line settings)
    ∙ ap (λ (n : ℕ). lengths setting_len settings + n) (lines_len include_line includes))

fixed_small : (s : Standard) → fixed_len s ≤ 243
fixed_small C99 = omega arith
fixed_small C11 = omega arith
fixed_small Gnu99 = omega arith
fixed_small Gnu11 = omega arith

fits : (n : ℕ) (standard : Standard) (settings : List Setting) (includes : List (List ℕ)) → length (defines_text standard settings includes) ≡ n → n ≤ 65536
    → defines_fit standard settings includes ≡ true
unfolding defines_fit
fits n standard settings includes len h = le-leb (length (defines_text standard settings includes)) 65536 (omega (arith, len, h))

fits_not : (n : ℕ) (standard : Standard) (settings : List Setting) (includes : List (List ℕ)) → length (defines_text standard settings includes) ≡ n → 65536 < n
    → defines_fit standard settings includes ≡ false
unfolding defines_fit
fits_not n standard settings includes len h = lt-leb (length (defines_text standard settings includes)) 65536 (omega (arith, len, h))

-- the settings' lines take more than there is
pub settings_pass : (standard : Standard) (settings : List Setting) (includes : List (List ℕ)) → 65536 - fixed_len standard < lengths setting_len settings
    → defines_fit standard settings includes ≡ false
settings_pass standard settings includes h =
    let small = fixed_small standard in
    fits_not _ standard settings includes (defines_len standard settings includes) (omega (arith, small, h))

-- the rest is for the include lines
pub includes_decide : (standard : Standard) (settings : List Setting) (includes : List (List ℕ)) (room : ℕ) → lengths setting_len settings ≤ 65536 - fixed_len standard
    → room ≡ 65536 - fixed_len standard - lengths setting_len settings → defines_fit standard settings includes ≡ nat_le (lengths include_len includes) room
includes_decide standard settings includes room within is =
    let small = fixed_small standard in
    let len = defines_len standard settings includes in
    elim (cases_Bool (nat_le (lengths include_len includes) room)) [
      | inl holds ↦ let le = leb-true (lengths include_len includes) room holds in fits _ standard settings includes len (omega (arith, small, within, is, le)) ∙ sym holds
      | inr fails ↦ let lt = leb-false (lengths include_len includes) room fails in fits_not _ standard settings includes len (omega (arith, small, within, is, lt)) ∙ sym fails
    ]
