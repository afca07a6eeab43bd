-- What a string literal gives to the assembler: its characters, for which escape sequences stand (ISO/IEC 9899:1999, 6.4.4.4 and 6.4.5).
-- Differs: `\e` and `\E` are the escape character (gcc's manual, "The Character ESC in Constants"); of a number the last eight bits count;
-- a universal character name (6.4.3) gives one byte that no name has; before any other character a backslash goes, as gcc takes it.
use Rattle.std.specs.Prelude.{ℕ, ◌+◌, ◌-◌, ◌*◌, ◌%◌, ◌==◌, ◌&&◌, nat_le, nat_lt, Bool, false, List, [], ◌∷◌, ◌++◌, take, drop, length, if◌then◌else◌}
use Rattle.std.specs.Str.{byte}
use Rattle.gnu_lists.specs.declared.strings.Escape.{Escape}
use Rattle.gnu_lists.specs.declared.strings.Escape.TheVariants.{Absent, Begun, Octal, Hexadecimal, Universal}

abbrev pub backslash : ℕ
backslash = 92

-- a byte that stands in no name
abbrev pub nameless : ℕ
nameless = 128

-- hexadecimal-digit (6.4.4.1): its value, or 16 for another character
abbrev pub digit_of : ℕ → ℕ
digit_of c =
    if nat_le (byte "0") c && nat_le c (byte "9") then c - byte "0"
    else (if nat_le (byte "a") c && nat_le c (byte "f") then c - byte "a" + 10
    else (if nat_le (byte "A") c && nat_le c (byte "F") then c - byte "A" + 10 else 16))

-- simple-escape-sequence: the character behind the backslash, and the one that it stands for (5.2.2)
abbrev pub simple : ℕ → ℕ
simple c =
    if c == byte "n" then 10
    else (if c == byte "t" then 9
    else (if c == byte "a" then 7
    else (if c == byte "b" then 8
    else (if c == byte "f" then 12
    else (if c == byte "r" then 13
    else (if c == byte "v" then 11
    else (if c == byte "e" then 27
    else (if c == byte "E" then 27 else c))))))))

-- what a character behind a backslash begins: an octal number of three digits at most, a hexadecimal one, a universal character name of
-- four or eight digits, or nothing, where it ends the escape sequence
abbrev pub begun_by : ℕ → Escape
begun_by c =
    if nat_lt (digit_of c) 8 then Octal (digit_of c) 2
    else (if c == byte "x" then Hexadecimal 0
    else (if c == byte "u" then Universal 4
    else (if c == byte "U" then Universal 8 else Absent)))

-- the number goes on with a character
abbrev pub goes_on : Escape → ℕ → Bool
goes_on (Octal value left) c = nat_lt (digit_of c) 8 && nat_lt 0 left
goes_on (Hexadecimal value) c = nat_lt (digit_of c) 16
goes_on (Universal left) c = nat_lt (digit_of c) 16 && nat_lt 0 left
goes_on Absent c = false
goes_on Begun c = false

abbrev pub with_digit : Escape → ℕ → Escape
with_digit (Octal value left) c = Octal ((value * 8 + digit_of c) % 256) (left - 1)
with_digit (Hexadecimal value) c = Hexadecimal ((value * 16 + digit_of c) % 256)
with_digit (Universal left) c = Universal (left - 1)
with_digit Absent c = Absent
with_digit Begun c = Begun

-- what a number gives
abbrev pub value_of : Escape → List ℕ
value_of (Octal value left) = value ∷ []
value_of (Hexadecimal value) = value ∷ []
value_of (Universal left) = nameless ∷ []
value_of Absent = []
value_of Begun = []

-- where no escape sequence has begun
abbrev pub begins : ℕ → Escape
begins c = if c == backslash then Begun else Absent

abbrev pub plain : ℕ → List ℕ
plain c = if c == backslash then [] else c ∷ []

-- behind a backslash: the character that a simple escape sequence stands for
abbrev pub simple_in : Escape → ℕ → List ℕ
simple_in Absent c = simple c ∷ []
simple_in _ c = []

-- an escape sequence that has come so far, once a character is read
abbrev pub step : Escape → ℕ → Escape
step Absent c = begins c
step Begun c = begun_by c
step escape c = if goes_on escape c then with_digit escape c else begins c

-- what is given where it is read
abbrev pub given_at : Escape → ℕ → List ℕ
given_at Absent c = plain c
given_at Begun c = simple_in (begun_by c) c
given_at escape c = if goes_on escape c then [] else value_of escape ++ plain c

-- what a text gives behind a part of an escape sequence
abbrev pub unescaped_from : Escape → List ℕ → List ℕ
unescaped_from escape [] = value_of escape
unescaped_from escape (c ∷ text) = given_at escape c ++ unescaped_from (step escape c) text

abbrev pub unescaped : List ℕ → List ℕ
unescaped text = unescaped_from Absent text

-- a string without its quotes
abbrev pub unquoted : List ℕ → List ℕ
unquoted text = take (length text - 2) (drop 1 text)

abbrev pub given_by : List ℕ → List ℕ
given_by text = unescaped (unquoted text)
