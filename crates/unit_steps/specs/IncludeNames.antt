-- What an include line names (ISO/IEC 9899:1999, 6.10.2).
use Rattle.std.specs.Prelude.{false, if◌then◌else◌, Option, Some, None, List, [], ◌∷◌, Ok, Err}
use Rattle.cs_base.specs.declared.causes.Cause.TheVariants.{BadDirective}
use Rattle.cs_base.specs.declared.positions.Pos.{Pos}
use Rattle.cs_base.specs.Token.{Token}
use Rattle.source_files.specs.Files.{SourceFile}
use Rattle.source_files.specs.Faults.{fault_at}
use Rattle.source_files.specs.Search.{Header}
use Rattle.source_files.specs.HeaderNames.{is_header, header_in, header_of_toks, header_at, begins_header}
use Rattle.unit_steps.specs.Notes.{Named}
use Rattle.unit_steps.specs.State.{State, did, Outcome, only, onward}
use Rattle.unit_steps.specs.Expanding.{expanded_in}

-- the header of an expanded include line
abbrev pub header_or : SourceFile → Pos → List Token → State → Option Header → Outcome Header
header_or file at toks s None = Err (fault_at file at BadDirective)
header_or file at toks s (Some h) = Ok (did h (Named toks ∷ []) s)

abbrev pub computed_header : SourceFile → Pos → List Token → State → Outcome Header
computed_header file at toks s =
    onward (expanded_in false file toks s) (λ out t. header_or file at out t (header_of_toks out))

-- the header of tokens as they stand
abbrev pub written_header : SourceFile → Pos → State → Option Header → Outcome Header
written_header file at s None = Err (fault_at file at BadDirective)
written_header file at s (Some h) = only h s

-- the header that an `include_next` line names, given by the tokens behind its word: they are expanded, unless they begin as a
-- header
abbrev pub next_named : SourceFile → Pos → List Token → State → Outcome Header
next_named file at toks s =
    if begins_header toks then written_header file at s (header_at toks) else computed_header file at toks s

-- the header that an include line names, given by the tokens behind its word
abbrev pub header_named : SourceFile → Pos → List Token → State → Outcome Header
header_named file at [] s = Err (fault_at file at BadDirective)
header_named file at (t ∷ toks) s =
    if is_header t.kind then only (header_in t.text) s else computed_header file at (t ∷ toks) s
