-- Directive lines in a processed group (ISO/IEC 9899:1999, 6.10.1, 6.10.3, 6.10.5 to 6.10.7).
use Rattle.std.specs.Prelude.{ℕ, ◌==◌, Bool, true, false, not, ◌&&◌, if◌then◌else◌, Option, Some, None, List, [], ◌∷◌, ◌++◌, Ok, Err, codes, drop}
use Rattle.std.specs.List.{list_any}
use Rattle.std.specs.Option.{option_map_or}
use Rattle.cs_base.specs.declared.causes.Cause.TheVariants.{BadDirective}
use Rattle.cs_base.specs.declared.positions.Pos.{Pos}
use Rattle.cs_base.specs.Token.{Token}
use Rattle.source_files.specs.Below.line_shape.declared.items.ItemKind.{ItemKind}
use Rattle.source_files.specs.Below.line_shape.declared.items.ItemKind.TheVariants.{If, Ifdef, Ifndef, Gnu}
use Rattle.source_files.specs.Below.line_shape.declared.items.GnuLine.{GnuLine}
use Rattle.source_files.specs.Below.line_shape.declared.items.GnuLine.TheVariants.{Elifdef, Elifndef}
use Rattle.source_files.specs.Below.line_shape.Signs.{is_word}
use Rattle.macro_expand.specs.Below.macro_body.declared.definitions.Definition.{Definition}
use Rattle.macro_expand.specs.Below.macro_body.Live.{with_macro, without_macro}
use Rattle.macro_expand.specs.Below.macro_body.Defining.{defined_by, in_gnu}
use Rattle.source_files.specs.Files.{SourceFile}
use Rattle.source_files.specs.Faults.{fault_at}
use Rattle.unit_steps.specs.Notes.{Note, Defined, Undefined, ReadOnce}
use Rattle.unit_steps.specs.State.{State, did, Outcome, only}
use Rattle.unit_steps.specs.Names.{name_links, with_name, definition_links}
use Rattle.unit_steps.specs.Conditions.{holds, is_macro, test_notes}

-- the name that a directive takes: it stands behind the `#` and the word
abbrev pub operand_in : List Token → Option Token
operand_in (hash ∷ word ∷ name ∷ toks) = Some name
operand_in _ = None

-- ---- definitions (6.10.3, 6.10.3.5)

-- what happens where a macro is defined
abbrev pub define_notes : Definition → State → List Note
define_notes m s = Defined m s.before ∷ name_links m.name s ++ definition_links m

-- the state behind the definition
abbrev pub after_define : Definition → State → State
after_define m s = record (with_name m.name s) { macros = with_macro m s.macros }

-- GNU C alone has a name of the variable arguments, and has no meaning for `__VA_OPT__` yet
abbrev pub may_define : Bool → Definition → Bool
may_define true m = not (list_any (λ t. is_word (codes "__VA_OPT__") t) m.body)
may_define false m = not m.named

abbrev pub defined_as : Bool → SourceFile → Pos → State → Option Definition → Outcome (List Token)
defined_as gnu file at s None = Err (fault_at file at BadDirective)
defined_as gnu file at s (Some m) =
    if may_define gnu m then Ok (did [] (define_notes (in_gnu gnu m) s) (after_define (in_gnu gnu m) s))
    else Err (fault_at file at BadDirective)

-- a `define` line, in a unit of GNU C or of another standard
abbrev pub define_of : Bool → SourceFile → Pos → List Token → State → Outcome (List Token)
define_of gnu file at toks s = defined_as gnu file at s (defined_by toks)

-- the state behind an `undef` line
abbrev pub after_undef : Token → State → State
after_undef name s = record (with_name name s) { macros = without_macro name.text s.macros }

abbrev pub undefined_as : SourceFile → Pos → State → Option Token → Outcome (List Token)
undefined_as file at s None = Err (fault_at file at BadDirective)
undefined_as file at s (Some name) = Ok (did [] (Undefined name s.before ∷ name_links name s) (after_undef name s))

-- an `undef` line
abbrev pub undef_of : SourceFile → Pos → List Token → State → Outcome (List Token)
undef_of file at toks s = undefined_as file at s (operand_in toks)

-- ---- conditions (6.10.1)

-- a name is asked for, and the answer is made of whether it is that of a macro
abbrev pub asks_name : SourceFile → Pos → (Bool → Bool) → State → Option Token → Outcome Bool
asks_name file at answer s None = Err (fault_at file at BadDirective)
asks_name file at answer s (Some name) = Ok (did (answer (is_macro name s)) (test_notes name s) (with_name name s))

-- whether the first group of a section is processed, by the directive that opens it; a bad line opens none
abbrev pub opens_with : ItemKind → SourceFile → Pos → List Token → State → Outcome Bool
opens_with If file at toks s = holds file at (drop 2 toks) s
opens_with Ifdef file at toks s = asks_name file at (λ b. b) s (operand_in toks)
opens_with Ifndef file at toks s = asks_name file at not s (operand_in toks)
opens_with _ file at toks s = Err (fault_at file at BadDirective)

-- whether the next group of a section is processed where none was yet, by a directive that GNU C alone has
abbrev pub goes_with_line : GnuLine → SourceFile → Pos → List Token → State → Outcome Bool
goes_with_line Elifdef file at toks s = asks_name file at (λ b. b) s (operand_in toks)
goes_with_line Elifndef file at toks s = asks_name file at not s (operand_in toks)
goes_with_line _ file at toks s = Err (fault_at file at BadDirective)

-- the same by any directive that goes on with a section: by its condition, or by the name that it asks for
abbrev pub goes_with : ItemKind → SourceFile → Pos → List Token → State → Outcome Bool
goes_with (Gnu line) file at toks s = goes_with_line line file at toks s
goes_with _ file at toks s = holds file at (drop 2 toks) s

-- it is a condition that is evaluated
abbrev pub is_if : ItemKind → Bool
is_if If = true
is_if _ = false

-- ---- files that are read once (a pragma of GNU C, 6.10.6)

-- the word behind `pragma` says so
abbrev pub says_once : List Token → Bool
says_once toks = option_map_or (λ t. is_word (codes "once") t) (operand_in toks) false

-- the state in which the file of this number is read once
abbrev pub with_once : ℕ → State → State
with_once number s = record s { once = s.once ++ number ∷ [] }

abbrev pub said_once : SourceFile → Pos → State → Outcome (List Token)
said_once file at s = Ok (did [] (ReadOnce false at file.number s.before ∷ []) (with_once file.number s))

-- a `pragma` line, in a unit of GNU C or of another standard
abbrev pub pragma_of : Bool → SourceFile → Pos → List Token → State → Outcome (List Token)
pragma_of gnu file at toks s = if gnu && says_once toks then said_once file at s else only [] s

-- the file of this number is one of those
abbrev pub is_read_once : ℕ → State → Bool
is_read_once number s = list_any (λ n. n == number) s.once
