-- Expansion of macros (ISO/IEC 9899:1999, 6.10.3.4): the first name that can be replaced is replaced, and
-- its result is scanned again together with what follows. Whole lists with hide sets, as Prosser's
-- algorithm has them.
use Rattle.std.specs.Prelude.{ℕ, zero, suc, ◌+◌, ◌-◌, ◌&&◌, Bool, true, false, not, if◌then◌else◌, nat_lt, List, [], ◌∷◌, ◌++◌, length, map, Option, Some, None, Result, Ok, Err}
use Rattle.cs_base.specs.Limits.{most_bytes}
use Rattle.cs_base.specs.Token.{Token}
use Rattle.macro_body.specs.declared.definitions.Form.{Form}
use Rattle.macro_body.specs.declared.definitions.Form.TheVariants as form
use Rattle.macro_body.specs.declared.definitions.Definition.{Definition}
use Rattle.macro_body.specs.Below.line_shape.Signs.{is_name, is_open}
use Rattle.macro_body.specs.declared.notes.Work.{Work}
use Rattle.macro_body.specs.Hides.{Hidden, hidden, hides_name, in_both, hide_more, unhidden}
use Rattle.macro_body.specs.Macro.{Table, is_function}
use Rattle.macro_body.specs.Bodies.{Part, chains_of, occurs_alone}
use Rattle.macro_expand.specs.Calls.{Call, call_from, commas_of, arguments_of}
use Rattle.macro_body.specs.Notes.{Fault, OpenCall, WrongArguments, TooMuchWork, TooDeep, Note, Replaced, Linked, Counted, Expanded, expanded, put_out, noted, onward}
use Rattle.macro_body.specs.Substitution.{Made, made, cost_of, result_of, number_token, line_number, path_string}

-- What stays the same in an expansion: the macros, and the path of the file.
pub record Setting : Type 0 where
  pub table : Table
  pub path : List ℕ

-- An expansion of the tokens that follow: how many arguments are being expanded around it, how many tokens
-- were put out before, the tokens, and the work that is left with the next number.
abbrev pub Next : Type 0
Next = ℕ → ℕ → List Hidden → Work → Result Expanded Fault

-- so many arguments may be expanded inside one another (this project's limit)
abbrev pub most_depth : ℕ
most_depth = 200

-- how many tokens are put out, one more; none is while an argument is expanded
abbrev pub one_more : ℕ → ℕ → ℕ
one_more zero before = before + 1
one_more (suc depth) before = before

-- a token that stays, and what follows it
abbrev pub stays : Next → ℕ → ℕ → Hidden → List Hidden → Work → Result Expanded Fault
stays next depth before t ts work = onward (next depth (one_more depth before) ts work) (λ e. Ok (put_out t e))

-- The expanded arguments: each whose parameter occurs other than as an operand of `#` or `##`, from the
-- first to the last, alone (6.10.3.1).
pub record Full : Type 0 where
  pub lists : List (List Hidden)
  pub notes : List Note
  pub left : Work

abbrev pub full : List (List Hidden) → List Note → Work → Full
full lists notes left = record { lists = lists; notes = notes; left = left }

-- an argument in front of the rest
abbrev pub with_full : Expanded → Full → Full
with_full e f = full (e.toks ∷ f.lists) (e.notes ++ f.notes) f.left

-- an argument that is not expanded
abbrev pub without_full : Full → Full
without_full f = full ([] ∷ f.lists) f.notes f.left

-- an argument expanded alone, within the limit on depth
abbrev pub alone : Next → ℕ → ℕ → Token → List Hidden → Work → Result Expanded Fault
alone next depth before name a work =
    if nat_lt depth most_depth then next (suc depth) before a work else Err (TooDeep name.at)

-- the arguments from number i on, the rest of them by `rest`
abbrev pub full_step : Bool → Next → ℕ → ℕ → Token → List Hidden → Work → (Work → Result Full Fault) → Result Full Fault
full_step true next depth before name a work rest =
    onward (alone next depth before name a work) (λ e. onward (rest e.left) (λ f. Ok (with_full e f)))
full_step false next depth before name a work rest = onward (rest work) (λ f. Ok (without_full f))

abbrev pub full_from : Next → ℕ → ℕ → Token → List (List Part) → ℕ → List (List Hidden) → Work → Result Full Fault
full_from next depth before name chains i [] work = Ok (full [] [] work)
full_from next depth before name chains i (a ∷ args) work =
    full_step (occurs_alone i chains) next depth before name a work (full_from next depth before name chains (suc i) args)

-- What a replacement puts in, before hide sets are added; what happened; and the work left.
abbrev pub spent : Token → ℕ → Work → Result (Made (List Hidden)) Fault → Result Expanded Fault
spent name cost work result =
    if nat_lt work.left cost then Err (TooMuchWork name.at) else onward result (λ m. Ok (expanded m.value m.notes (record work { left = work.left - cost })))

-- The next number of the unit, for which `__COUNTER__` stands (GNU C, "Common Predefined Macros"): the first is 0,
-- and each replacement takes one more. There are fewer than a file may have bytes, as each costs work.
abbrev pub numbered : Token → Work → Result Expanded Fault
numbered name work =
    spent name 1 (record work { counter = work.counter + 1 })
    (Ok (made (hidden (number_token name work.counter) [] ∷ []) (Counted (number_token name work.counter) ∷ [])))

abbrev pub counted : Token → Work → Result Expanded Fault
counted name work = if nat_lt work.counter most_bytes then numbered name work else Err (TooMuchWork name.at)

-- the replacement list with the arguments in place of the parameters
abbrev pub substituted : Next → ℕ → ℕ → Token → Definition → List (List Hidden) → Work → Result Expanded Fault
substituted next depth before name m raw work =
    onward (full_from next depth before name (chains_of m) 0 raw work) (λ f.
    onward (spent name (cost_of name (record { raw = raw; full = f.lists }) (chains_of m)) f.left
    (result_of name (record { raw = raw; full = f.lists }) (chains_of m)))
    (λ e. Ok (noted f.notes e)))

-- what a name is replaced by, by the form of its macro
abbrev pub put_for : Form → List ℕ → Next → ℕ → ℕ → Token → Definition → List (List Hidden) → Work → Result Expanded Fault
put_for form.Line path next depth before name m raw work = spent name 1 work (Ok (made (hidden (line_number name) [] ∷ []) []))
put_for form.File path next depth before name m raw work = spent name 1 work (Ok (made (hidden (path_string path name) [] ∷ []) []))
put_for form.Counter path next depth before name m raw work = counted name work
put_for form.Object path next depth before name m raw work = substituted next depth before name m raw work
put_for form.Function path next depth before name m raw work = substituted next depth before name m raw work

-- a name that its macro replaces is linked with it; `__LINE__`, `__FILE__` and `__COUNTER__` have no name in a file
abbrev pub links_name : Form → Bool
links_name form.Line = false
links_name form.File = false
links_name form.Counter = false
links_name _ = true

-- what happens first in a replacement
abbrev pub first_notes : Token → Definition → ℕ → List Note
first_notes name m before =
    Replaced name m.name before ∷ (if links_name m.form then Linked name m.name ∷ [] else [])

-- a replacement: the names `added` are not available to what it puts in, which is scanned again together
-- with the tokens behind it
abbrev pub replaced : Setting → Next → ℕ → ℕ → Token → Definition → List (List ℕ) → List (List Hidden) → List Hidden → Work → Result Expanded Fault
replaced set next depth before name m added raw ts work =
    onward (put_for m.form set.path next depth before name m raw work) (λ e.
    onward (next depth before (map (hide_more added) e.toks ++ ts) e.left) (λ rest.
    Ok (noted (first_notes name m before ++ e.notes) rest)))

-- the names that are not available to the result of a call: those of both the name and the `)`, and the
-- name itself
abbrev pub added_by : Hidden → List (List ℕ) → List (List ℕ)
added_by t close = in_both t.hides close ++ t.tok.text ∷ []

-- a call with the right number of arguments, or not
abbrev pub called_with : Setting → Next → ℕ → ℕ → Hidden → Definition → Call → Work → Option (List (List Hidden)) → Result Expanded Fault
called_with set next depth before t m call work None = Err (WrongArguments t.tok.at)
called_with set next depth before t m call work (Some raw) =
    replaced set next depth before t.tok m (added_by t call.close) raw call.rest work

-- a call, or one without its `)`
abbrev pub called : Setting → Next → ℕ → ℕ → Hidden → Definition → Work → Option Call → Result Expanded Fault
called set next depth before t m work None = Err (OpenCall t.tok.at)
called set next depth before t m work (Some call) =
    called_with set next depth before t m call work (arguments_of m call.arguments)

-- a function-like macro's name: it stays where no `(` follows (6.10.3 paragraph 10)
abbrev pub behind_name : Setting → Next → ℕ → ℕ → Hidden → Definition → List Hidden → Work → Result Expanded Fault
behind_name set next depth before t m [] work = stays next depth before t [] work
behind_name set next depth before t m (p ∷ ts) work =
    if is_open p.tok then called set next depth before t m work (call_from ts (commas_of m) 0) else
    stays next depth before t (p ∷ ts) work

-- the first token: it stays, or its macro replaces it
abbrev pub act : Setting → Next → ℕ → ℕ → Hidden → List Hidden → Work → Option Definition → Result Expanded Fault
act set next depth before t ts work None = stays next depth before t ts work
act set next depth before t ts work (Some m) =
    if is_function m.form then behind_name set next depth before t m ts work else
    replaced set next depth before t.tok m (t.hides ++ t.tok.text ∷ []) [] ts work

-- the macro that replaces a token: it is an identifier, is available, and is defined
abbrev pub macro_of : Table → Hidden → Option Definition
macro_of table t = if is_name t.tok && not (hides_name t.hides t.tok.text) then table t.tok.text else None

-- one step of the expansion, the rest of it by `next`
abbrev pub step : Setting → Next → Next
step set next depth before [] work = Ok (expanded [] [] work)
step set next depth before (t ∷ ts) work = act set next depth before t ts work (macro_of set.table t)

-- so many steps; a law says that they suffice where they are more than the work and the tokens together
unfoldable pub steps : ℕ → Setting → Next
steps zero set = λ depth before ts work. Ok (expanded [] [] work)
steps (suc n) set = step set (steps n set)

-- the whole expansion
unfoldable pub whole : Setting → Next
whole set depth before ts work = steps (suc (work.left + length ts)) set depth before ts work

-- the expansion of a run, given the macros, the path of the file and the work that is left
unfoldable pub expansion : Table → List ℕ → List Token → Work → Result Expanded Fault
expansion table path run work = whole (record { table = table; path = path }) 0 0 (unhidden run) work
