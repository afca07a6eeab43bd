-- Expansion of macros in a unit (ISO/IEC 9899:1999, 6.10.3): in its runs, its conditions and its include
-- lines.
use Rattle.std.specs.Prelude.{ℕ, ◌+◌, ◌-◌, Bool, true, nat_lt, min, if◌then◌else◌, List, [], ◌∷◌, Result, Ok, Err, length, map, drop}
use Rattle.cs_base.specs.declared.causes.Cause.TheVariants as cause
use Rattle.cs_base.specs.Token.{Token}
use Rattle.macro_expand.specs.Below.macro_body.Hides.{toks_of}
use Rattle.macro_expand.specs.Below.macro_body.Notes as expansion
use Rattle.macro_expand.specs.Expansion.{expansion}
use Rattle.source_files.specs.Files.{SourceFile}
use Rattle.source_files.specs.Faults.{Fault, fault, fault_at, first_place}
use Rattle.unit_steps.specs.Notes.{Happened}
use Rattle.unit_steps.specs.State.{Context, State, did, Outcome, only, onward}

-- the fault of an expansion in a file: it stands at the name of a macro
abbrev pub expansion_fault : SourceFile → expansion.Fault → Fault
expansion_fault file (expansion.OpenCall at) = fault_at file at cause.OpenCall
expansion_fault file (expansion.WrongArguments at) = fault_at file at cause.WrongArguments
expansion_fault file (expansion.NotOneToken at) = fault_at file at cause.NotOneToken
expansion_fault file (expansion.NotAString at) = fault_at file at cause.NotAString
expansion_fault file (expansion.TooMuchWork at) = fault_at file at cause.TooMuchWork
expansion_fault file (expansion.TooDeep at) = fault_at file at cause.TooDeep

-- an expansion in a file, in a run or not
abbrev pub expanded_as : Bool → SourceFile → State → Result expansion.Expanded expansion.Fault → Outcome (List Token)
expanded_as run file s (Ok e) =
    Ok (did (toks_of e.toks) (map (Happened run s.before) e.notes) (record s { work = e.left }))
expanded_as run file s (Err found) = Err (expansion_fault file found)

-- the tokens that tokens of a file expand to
abbrev pub expanded_in : Bool → SourceFile → List Token → State → Outcome (List Token)
expanded_in run file toks s = expanded_as run file s (expansion s.macros file.path toks s.work)

-- how many tokens a unit may have
abbrev pub most_toks : Context → ℕ
most_toks ctx = min ctx.limits.unit_toks (ctx.limits.all_toks - ctx.earlier)

-- too many tokens: the fault stands at the first of these, which are past the limit
abbrev pub past_limit : SourceFile → List Token → Fault
past_limit file [] = fault (first_place file.path) cause.TooManyTokens
past_limit file (t ∷ toks) = fault_at file t.at cause.TooManyTokens

-- tokens are put out
abbrev pub put_out : Context → SourceFile → List Token → State → Outcome (List Token)
put_out ctx file toks s =
    if nat_lt (most_toks ctx) (s.before + length toks)
    then Err (past_limit file (drop (most_toks ctx - s.before) toks))
    else only toks (record s { before = s.before + length toks })

-- a run of text lines
abbrev pub run_of : Context → SourceFile → List Token → State → Outcome (List Token)
run_of ctx file toks s = onward (expanded_in true file toks s) (put_out ctx file)
