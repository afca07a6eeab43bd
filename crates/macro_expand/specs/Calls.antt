-- Calls of function-like macros (ISO/IEC 9899:1999, 6.10.3 paragraphs 4 and 10 to 12).
use Rattle.std.specs.Prelude.{ℕ, zero, suc, ◌+◌, ◌-◌, ◌&&◌, ◌||◌, ◌==◌, Bool, true, false, if◌then◌else◌, List, [], ◌∷◌, ◌++◌, length, Option, Some, None}
use Rattle.std.specs.Option.{option_map}
use Rattle.cs_base.specs.Token.{Token}
use Rattle.macro_body.specs.declared.definitions.Definition.{Definition}
use Rattle.macro_body.specs.Below.line_shape.Signs.{is_open, is_close, is_comma}
use Rattle.macro_body.specs.Hides.{Hidden}
use Rattle.macro_body.specs.Macro.{arity, rest_number}

-- What stands behind the `(` of a call: the arguments as they stand, the hide set of the `)`, and what
-- follows it.
pub record Call : Type 0 where
  pub arguments : List (List Hidden)
  pub close : List (List ℕ)
  pub rest : List Hidden

-- What a token is among the arguments: the `)` of the call, a comma that separates, or a token of an
-- argument.
pub data Role : Type 0 where
  Closes : Role
  Separates : Role
  Belongs : Role

-- how many commas separate: all of them where this is none
abbrev pub separates : Option ℕ → Bool
separates (Some zero) = false
separates _ = true

-- the same behind a comma that separates
abbrev pub fewer : Option ℕ → Option ℕ
fewer (Some n) = Some (n - 1)
fewer None = None

-- what a token is, `level` parentheses of the arguments being open
abbrev pub role_of : Option ℕ → ℕ → Token → Role
role_of commas (suc level) t = Belongs
role_of commas zero t =
    if is_close t then Closes else (if is_comma t && separates commas then Separates else Belongs)

-- how many parentheses are open behind a token
abbrev pub level_after : Token → ℕ → ℕ
level_after t level = if is_open t then level + 1 else (if is_close t then level - 1 else level)

-- a token put in front of the first argument
abbrev pub onto_first : Hidden → List (List Hidden) → List (List Hidden)
onto_first t [] = (t ∷ []) ∷ []
onto_first t (a ∷ args) = (t ∷ a) ∷ args

abbrev pub with_token : Hidden → Call → Call
with_token t call = record call { arguments = onto_first t call.arguments }

-- an argument that ends before the first one
abbrev pub with_argument : Call → Call
with_argument call = record call { arguments = [] ∷ call.arguments }

-- the call whose `)` this token is
abbrev pub closed : Hidden → List Hidden → Call
closed t ts = record { arguments = [] ∷ []; close = t.hides; rest = ts }

-- The call, read on from tokens of its arguments, or none where its `)` is missing.
abbrev pub CallFrom : Type 0
CallFrom = Option ℕ → ℕ → Option Call

abbrev pub call_step : Role → Option ℕ → ℕ → Hidden → List Hidden → CallFrom → Option Call
call_step Closes commas level t ts behind = Some (closed t ts)
call_step Separates commas level t ts behind = option_map with_argument (behind (fewer commas) level)
call_step Belongs commas level t ts behind = option_map (with_token t) (behind commas (level_after t.tok level))

unfoldable pub call_from : List Hidden → CallFrom
call_from [] commas level = None
call_from (t ∷ ts) commas level = call_step (role_of commas level t.tok) commas level t ts (call_from ts)

-- how many commas separate the arguments of a macro: as many as it has parameters before variable arguments, if it has
-- these (6.10.3 paragraph 12)
abbrev pub commas_of : Definition → Option ℕ
commas_of m = rest_number m

-- nothing stands between the parentheses
abbrev pub is_blank : List (List Hidden) → Bool
is_blank ([] ∷ []) = true
is_blank _ = false

-- the arguments of a call of a macro that has so many parameters before variable arguments: these are empty where they
-- are missing, and in GNU C they stay away
abbrev pub with_rest : Bool → ℕ → List (List Hidden) → List (List Hidden)
with_rest true n args = if n == 0 && is_blank args then [] else args
with_rest false n args = if length args == n then args ++ [] ∷ [] else args

-- the arguments, none where nothing stands between the parentheses and no parameter is there
abbrev pub completed_by : Definition → List (List Hidden) → Option ℕ → List (List Hidden)
completed_by m args (Some n) = with_rest m.gnu n args
completed_by m args None = if arity m == 0 && is_blank args then [] else args

abbrev pub completed : Definition → List (List Hidden) → List (List Hidden)
completed m args = completed_by m args (rest_number m)

-- a call may have so many arguments (6.10.3 paragraph 4): as many as the macro has parameters, and in GNU C none for the
-- variable arguments
abbrev pub lacks_rest : Definition → ℕ → Option ℕ → Bool
lacks_rest m count (Some n) = m.gnu && count == n
lacks_rest m count None = false

abbrev pub are_enough : Definition → ℕ → Bool
are_enough m count = count == arity m || lacks_rest m count (rest_number m)

-- the arguments of a call, or none where their number is wrong
abbrev pub arguments_of : Definition → List (List Hidden) → Option (List (List Hidden))
arguments_of m args = if are_enough m (length (completed m args)) then Some (completed m args) else None
