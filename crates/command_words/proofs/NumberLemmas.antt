-- Nine decimal digits spell a number below 10^9.
use Rattle.std.proofs.Common.{◌≡◌, ℕ, Bool, true, ◌&&◌, zero, suc, [], ◌∷◌, ◌-◌, ◌<◌, ◌≤◌, ◌^◌, List, IsTrue, length, get_or, arith, lit<}
use Rattle.std.proofs.lemmas.Bool.Decides.{nat_tests}
use Rattle.std.specs.Char.{is_ascii_digit}
use Rattle.std.specs.Str.{byte}
use Rattle.command_words.specs.Request.{are_digits}
use Rattle.std.proofs.Math.Nat.{pow-le-pow_right}
use Rattle.std.proofs.lemmas.Bool.{and_parts}

pub pow_small : (i : ℕ) → i < 9 → 10 ^ i ≤ 100000000
pow_small i small = let eight : i ≤ 8 = omega arith in pow-le-pow_right {n = 10} (lit< tt) eight

-- a byte of decimal digits spells at most nine
pub digit_small : (digits : List ℕ) (i d : ℕ) → i < length digits → IsTrue (are_digits digits)
    → get_or digits i d - byte "0" ≤ 9
digit_small [] i d within digits = absurd (omega arith)
digit_small (b ∷ bs) zero d within digits = grind (arith, nat_tests)
digit_small (b ∷ bs) (suc i) d within digits =
    let within' : i < length bs = omega arith in
    digit_small bs i d within' ((and_parts (is_ascii_digit b) (are_digits bs) digits).1)
