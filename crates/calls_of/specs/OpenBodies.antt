-- A table of the function whose body is open behind so many tokens of a unit (ISO/IEC 9899:1999, 6.9.1).
use Rattle.std.specs.Prelude.{ℕ, ◌≡◌, ◌&&◌, nat_lt, if◌then◌else◌, Bool, Option, Some, None, List, find, slice_index_or}
use Rattle.std.specs.Option.{option_map, option_or}
use Rattle.analysis.specs.Below.c_types.declared.lists.Range.{Range}
use Rattle.calls_of.specs.Calls.{is_open_behind}

-- the name of the first of these bodies that is open
abbrev pub open_among : List Range → ℕ → Option ℕ
open_among functions before = option_map (λ (r : Range). r.name) (find (is_open_behind before) functions)

-- what the table says for so many tokens; behind its end no body is open
abbrev pub body_at : List (Option ℕ) → ℕ → Option ℕ
body_at table before = slice_index_or table before None

-- the table tells the bodies
abbrev pub AreOpenIn : List (Option ℕ) → List Range → Type 0
AreOpenIn table functions = (before : ℕ) → body_at table before ≡ open_among functions before

-- the numbers from one to before another
abbrev pub is_between : ℕ → ℕ → ℕ → Bool
is_between from end before = nat_lt from before && nat_lt before end

-- the table has this name behind these numbers of tokens too, each where it had none
abbrev pub Opened : ℕ → ℕ → ℕ → List (Option ℕ) → List (Option ℕ) → Type 0
Opened name from end old new =
    (before : ℕ) → body_at new before ≡ option_or (body_at old before) (if is_between from end before then Some name else None)
