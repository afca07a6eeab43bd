-- How the program goes on in an expansion: it keeps what happened, counts the tokens that it has put out,
-- and spends the work, where the definition gives them together at the end.
use Rattle.std.specs.Prelude.{◌≡◌, ℕ, ◌-◌, Bool, true, false, if◌then◌else◌, nat_lt, List, [], ◌∷◌, ◌++◌, Option, Some, None, Result, Ok, Err, IfSome}
use Rattle.cs_base.specs.Token.{Token}
use Rattle.macro_body.specs.declared.notes.Work.{Work}
use Rattle.macro_body.specs.declared.definitions.Definition.{Definition}
use Rattle.macro_expand.specs.declared.context.Context.{Context}
use Rattle.macro_body.specs.declared.fault.ExpandFault.{ExpandFault}
use Rattle.macro_body.specs.Hides.{Hidden, hidden, toks_of}
use Rattle.macro_body.specs.Live.{table_of}
use Rattle.macro_expand.specs.Calls.{Call, arguments_of}
use Rattle.macro_body.specs.Notes.{Fault, OpenCall, WrongArguments, TooMuchWork, Expanded, expanded, noted, onward}
use Rattle.macro_expand.specs.Expansion.{Setting, Next, one_more, alone, Full, put_for, first_notes, added_by, whole}
use Rattle.macro_body.specs.Kept.{Kept, kept_with}
use Rattle.macro_body.specs.Faults.{fault_of}

-- what stays the same
abbrev pub setting_of : Context → Setting
setting_of cx = record { table = table_of cx.macros.now; path = cx.path.now }

-- the whole expansion of tokens, where so many were put out before
abbrev pub whole_in : Context → ℕ → List Hidden → Work → Result Expanded Fault
whole_in cx before ts work = whole (setting_of cx) cx.depth before ts work

-- how many tokens are put out behind a token that stays, if one does
abbrev pub before_behind : Option Hidden → ℕ → ℕ → ℕ
before_behind None depth before = before
before_behind (Some t) depth before = one_more depth before

-- an ending without hide sets behind tokens that were put out before
abbrev pub plain : List Token → Result (List Hidden × Work × Kept) Fault → Result (List Token × Work × Kept) Fault
plain out (Ok v) = Ok (out ++ toks_of v.0, v.1, v.2)
plain out (Err fault) = Err fault

-- What is left comes to what all comes to; or there is a fault, and all comes to it.
abbrev pub GoesOn : {X Y : Type 0} → Result X ExpandFault → Result Y Fault → (X → Result Y Fault) → Type 0
GoesOn (Ok x) all left = all ≡ left x
GoesOn (Err e) all left = IfSome (fault_of e) (λ fault. all ≡ Err fault)

-- what a replacement puts in, what happened, the name first, and the work that is left
abbrev pub brought : Setting → Next → ℕ → ℕ → Token → Definition → List (List Hidden) → Work → Result Expanded Fault
brought set next depth before name m raw work =
    onward (put_for m.form set.path next depth before name m raw work) (λ e. Ok (noted (first_notes name m before) e))

-- a token in place of a name at the cost of one, and the work that is left
abbrev pub one_spent : Token → Token → Work → Result (List Hidden × Work) Fault
one_spent name tok work =
    if nat_lt work.left 1 then Err (TooMuchWork name.at) else Ok (hidden tok [] ∷ [], record work { left = work.left - 1 })

-- the expanded argument, or nothing where it is not to be expanded
abbrev pub full_of : Bool → Next → ℕ → ℕ → Token → List Hidden → Work → Result Expanded Fault
full_of true next depth before name a work = alone next depth before name a work
full_of false next depth before name a work = Ok (expanded [] [] work)

-- expanded arguments behind others, the work that is left, and what is kept of what happened
abbrev pub all_full : Kept → List (List Hidden) → Result Full Fault → Result (List (List Hidden) × Work × Kept) Fault
all_full before lists (Ok f) = Ok (lists ++ f.lists, f.left, kept_with before f.notes)
all_full before lists (Err fault) = Err fault

-- the arguments of a call with the right number of them, the names that are not available to its result,
-- and what follows it
abbrev pub read_with : Hidden → List (List ℕ) → List Hidden → Option (List (List Hidden))
    → Result (List (List Hidden) × List (List ℕ) × List Hidden) Fault
read_with t close rest None = Err (WrongArguments t.tok.at)
read_with t close rest (Some raw) = Ok (raw, added_by t close, rest)

-- the same for a call that has its `)`
abbrev pub read_from : Hidden → Definition → Option Call → Result (List (List Hidden) × List (List ℕ) × List Hidden) Fault
read_from t m None = Err (OpenCall t.tok.at)
read_from t m (Some call) = read_with t call.close call.rest (arguments_of m call.arguments)
