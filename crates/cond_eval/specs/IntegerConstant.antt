-- Integer constants (ISO/IEC 9899:1999, 6.4.4.1), read from the spelling of a pp-number.
use Rattle.std.specs.Prelude.{ℕ, ◌+◌, ◌-◌, ◌*◌, ◌^◌, pos, Bool, ◌==◌, ◌&&◌, ◌||◌, nat_lt, nat_le, nat_eq, if◌then◌else◌, Option, Some, None, List, [], ◌∷◌, codes, take, drop}
use Rattle.std.specs.Option.{option_and_then}
use Rattle.std.specs.List.{list_any, prefix_len, starts_with}
use Rattle.std.specs.Str.{byte, bytes_eq}
use Rattle.cond_eval.specs.declared.integers.Integer.{Integer}
use Rattle.cond_eval.specs.declared.integers.Integer.TheVariants.{Signed, Unsigned}

-- hexadecimal-digit: its value, or 16 for another character
abbrev pub digit_of : ℕ → ℕ
digit_of c =
    if nat_le (byte "0") c && nat_le c (byte "9") then c - byte "0"
    else (if nat_le (byte "a") c && nat_le c (byte "f") then c - byte "a" + 10
    else (if nat_le (byte "A") c && nat_le c (byte "F") then c - byte "A" + 10 else 16))

-- a digit of the base: octal-digit, digit, hexadecimal-digit
abbrev pub is_digit : ℕ → ℕ → Bool
is_digit base c = nat_lt (digit_of c) base

-- the number that the digits stand for, behind the number so far (6.4.4.1 paragraph 4)
unfoldable pub digits_onto : ℕ → ℕ → List ℕ → ℕ
digits_onto base sofar [] = sofar
digits_onto base sofar (c ∷ cs) = digits_onto base (sofar * base + digit_of c) cs

-- a number, if it is below 2^64
abbrev pub word_of : ℕ → Option ℕ
word_of n = if nat_lt n (2 ^ 64) then Some n else None

-- integer-suffix without a `u`, or none
abbrev pub long_suffixes : List (List ℕ)
long_suffixes = codes "" ∷ codes "l" ∷ codes "L" ∷ codes "ll" ∷ codes "LL" ∷ []

-- integer-suffix with a `u` in front
abbrev pub unsigned_suffixes : List (List ℕ)
unsigned_suffixes =
    codes "u" ∷ codes "ul" ∷ codes "uL" ∷ codes "ull" ∷ codes "uLL"
    ∷ codes "U" ∷ codes "Ul" ∷ codes "UL" ∷ codes "Ull" ∷ codes "ULL" ∷ []

-- integer-suffix with a `u` behind
abbrev pub long_unsigned_suffixes : List (List ℕ)
long_unsigned_suffixes =
    codes "lu" ∷ codes "Lu" ∷ codes "llu" ∷ codes "LLu"
    ∷ codes "lU" ∷ codes "LU" ∷ codes "llU" ∷ codes "LLU" ∷ []

-- The constant of this value, below 2^64, and suffix: unsigned with a `u`, and where it is above 2^63 - 1
-- (6.4.4.1 paragraph 5, for the types of 6.10.1 paragraph 3). Differs: a decimal constant without a `u`
-- may be unsigned too, as compilers take it.
abbrev pub suffixed : List ℕ → ℕ → Option Integer
suffixed suffix value =
    if list_any (bytes_eq suffix) long_suffixes then
    Some (if nat_lt value (2 ^ 63) then Signed (pos value) else Unsigned value)
    else (if list_any (bytes_eq suffix) unsigned_suffixes || list_any (bytes_eq suffix) long_unsigned_suffixes
    then Some (Unsigned value) else None)

-- digits of the base, at least one, and a suffix; none where no type holds the value
abbrev pub constant_in : ℕ → List ℕ → Option Integer
constant_in base text =
    let len = prefix_len (is_digit base) text in
    if len == 0 then None
    else option_and_then (suffixed (drop len text)) (word_of (digits_onto base 0 (take len text)))

-- hexadecimal-prefix
abbrev pub is_hexadecimal : List ℕ → Bool
is_hexadecimal text = starts_with nat_eq text (codes "0x") || starts_with nat_eq text (codes "0X")

-- integer-constant, if the spelling is one
unfoldable pub integer_constant : List ℕ → Option Integer
integer_constant text =
    if is_hexadecimal text then constant_in 16 (drop 2 text)
    else (if starts_with nat_eq text (codes "0") then constant_in 8 text else constant_in 10 text)
