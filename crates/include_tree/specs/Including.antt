-- Include lines (ISO/IEC 9899:1999, 6.10.2).
use Rattle.std.specs.Prelude.{ℕ, Bool, true, false, if◌then◌else◌, Option, Some, None, List, [], ◌∷◌, Ok, Err, drop}
use Rattle.cs_base.specs.declared.causes.Cause.TheVariants.{IncludeDepth, MissingFile}
use Rattle.cs_base.specs.declared.positions.Pos.{Pos}
use Rattle.cs_base.specs.Token.{Token}
use Rattle.source_files.specs.Files.{SourceFile}
use Rattle.source_files.specs.Faults.{fault_at, place_in}
use Rattle.unit_steps.specs.Notes.{Entered, Exited, ReadOnce}
use Rattle.unit_steps.specs.State.{Context, State, did, Outcome, noted, onward}
use Rattle.source_files.specs.Search.{Header, candidates_of, behind_of, Searched, search}
use Rattle.unit_steps.specs.Directives.{is_read_once}
use Rattle.unit_steps.specs.IncludeNames.{header_named, next_named}
use Rattle.include_tree.specs.OpeningStep.{open_file}

-- the file that a search found, opened, or none
abbrev pub open_searched : Context → SourceFile → Pos → State → Searched → Option (List ℕ) → Outcome SourceFile
open_searched ctx file at s found None = Err (fault_at file at MissingFile)
open_searched ctx file at s found (Some path) =
    open_file ctx (place_in file at) path (record s { table = found.table })

abbrev pub open_found : Context → SourceFile → Pos → State → Searched → Outcome SourceFile
open_found ctx file at s found = open_searched ctx file at s found found.path

-- the file that a line of this file asks for, the next one of the name or the first
abbrev pub open_header : Context → SourceFile → Pos → Bool → Header → State → Outcome SourceFile
open_header ctx file at next h s =
    open_found ctx file at s (search ctx.source (candidates_of next h s.behind file.path ctx.unit) s.table)

-- What the items of a file give. None where no further file may be open.
abbrev pub Process : Type 0
Process = SourceFile → State → Outcome (List Token)

abbrev pub Inner : Type 0
Inner = Option Process

-- what a step gives, behind which a search for the next file of a name begins so
abbrev pub left_to : {A : Type 0} → Option ℕ → Outcome A → Outcome A
left_to behind (Ok d) = Ok (did d.value d.notes (record d.state { behind = behind }))
left_to behind (Err found) = Err found

-- the items of an included file, entered and left, in which it begins there
abbrev pub entered : Process → Pos → Option ℕ → SourceFile → State → Outcome (List Token)
entered process at behind file s =
    noted (Entered at file.number s.before ∷ []) (left_to s.behind
    (onward (process file (record s { behind = behind })) (λ toks t. Ok (did toks (Exited at file.number t.before ∷ []) t))))

-- the items of a file, which an include line passes over where the file is read once
abbrev pub unless_once : Pos → Process → Process
unless_once at process file s =
    if is_read_once file.number s then Ok (did [] (ReadOnce true at file.number s.before ∷ []) s) else process file s

-- the file of a header takes the place of the line
abbrev pub included : Context → Inner → SourceFile → Pos → Bool → Header → State → Outcome (List Token)
included ctx None file at next h s = Err (fault_at file at IncludeDepth)
included ctx (Some process) file at next h s =
    onward (open_header ctx file at next h s) (λ f t.
    entered (unless_once at process) at (behind_of next h s.behind file.path ctx.unit f.path) f t)

-- an include line
abbrev pub include_of : Context → Inner → SourceFile → Pos → List Token → State → Outcome (List Token)
include_of ctx inner file at toks s = onward (header_named file at (drop 2 toks) s) (included ctx inner file at false)

-- a line that asks for the next file of the name
abbrev pub include_next_of : Context → Inner → SourceFile → Pos → List Token → State → Outcome (List Token)
include_next_of ctx inner file at toks s = onward (next_named file at (drop 2 toks) s) (included ctx inner file at true)
