-- The steps of a unit go alike over the edited files, kind by kind (ISO/IEC 9899:1999, 6.10).
use Rattle.std.specs.Prelude.{◌≡◌, ℕ, Bool, true, List, map}
use Rattle.cs_base.specs.declared.positions.Pos.{Pos}
use Rattle.cs_base.specs.Token.{Token}
use Rattle.cs_base.specs.Units.{UnitValue}
use Rattle.lexer.specs.FileText.{TextValue}
use Rattle.line_shape.specs.declared.items.ItemKind.{ItemKind}
use Rattle.line_shape.specs.declared.items.ItemKind.TheVariants.{Define, Undef}
use Rattle.line_shape.specs.Directives.{takes_name}
use Rattle.line_shape.specs.Items.{line_kind}
use Rattle.macro_body.specs.Macro.{Table as Macros}
use Rattle.macro_expand.specs.Renaming.{renamed}
use Rattle.unit_steps.specs.Conditions.{holds}
use Rattle.unit_steps.specs.Directives.{operand_in, define_of, undef_of, asks_name}
use Rattle.unit_steps.specs.Expanding.{run_of}
use Rattle.source_files.specs.Files.{Source, SourceFile}
use Rattle.include_tree.specs.Including.{Inner, include_of}
use Rattle.include_tree.specs.GivenFiles.{unit_context}
use Rattle.unit_steps.specs.State.{State}
use Rattle.include_tree.specs.Walk.{file_items}
use Rattle.edited_unit_laws.specs.Lines.{Each, KeepsLine}
use Rattle.edited_unit_laws.specs.Keeping.{Change, Fits, KeepsNames, KeepsFiles}
use Rattle.edited_unit_laws.specs.Steps.{moved, GoesAlike, IsPutOutRenamed, IsSame, with_text, ProcessAlike, InnerAlike, InnerGrows}

-- ---- runs of text lines (6.10.3)

-- A run of renamed tokens gives the renamed tokens.
abbrev pub RunsGoAlike : Type 0
RunsGoAlike = (c : Change) → KeepsNames c → (old new : Source) (unit : UnitValue) (earlier : ℕ) (file : SourceFile) (text : TextValue) (toks : List Token) (macros : Macros) (s : State)
    → Each (Fits c) toks
    → GoesAlike c (IsPutOutRenamed c) macros s (run_of (unit_context old unit earlier) file toks s)
    (run_of (unit_context new unit earlier) (with_text file text) (map (renamed c.renaming) toks) (moved c macros s))

-- ---- definitions (6.10.3, 6.10.3.5)

-- A renamed `define` line defines the renamed macro: the macros are kept behind it.
abbrev pub DefinitionsGoAlike : Type 0
DefinitionsGoAlike = (c : Change) → KeepsNames c → (gnu : Bool) (file new : SourceFile) (at at2 : Pos) (toks : List Token) (macros : Macros) (s : State)
    → Each (Fits c) toks → line_kind toks ≡ Define → KeepsLine c.renaming toks
    → GoesAlike c (IsPutOutRenamed c) macros s (define_of gnu file at toks s) (define_of gnu new at2 (map (renamed c.renaming) toks) (moved c macros s))

-- So are they behind a renamed `undef` line.
abbrev pub UndefinitionsGoAlike : Type 0
UndefinitionsGoAlike = (c : Change) → KeepsNames c → (file new : SourceFile) (at at2 : Pos) (toks : List Token) (macros : Macros) (s : State)
    → Each (Fits c) toks → line_kind toks ≡ Undef
    → GoesAlike c (IsPutOutRenamed c) macros s (undef_of file at toks s) (undef_of new at2 (map (renamed c.renaming) toks) (moved c macros s))

-- ---- conditions (6.10.1)

-- A renamed name is that of a macro exactly where it was.
abbrev pub NamesAreAskedAlike : Type 0
NamesAreAskedAlike = (c : Change) → KeepsNames c → (kind : ItemKind) (file new : SourceFile) (at at2 : Pos) (answer : Bool → Bool) (toks : List Token) (macros : Macros) (s : State)
    → takes_name kind ≡ true → Each (Fits c) toks → line_kind toks ≡ kind
    → GoesAlike c (IsSame {A = Bool}) macros s (asks_name file at answer s (operand_in toks)) (asks_name new at2 answer (moved c macros s) (operand_in (map (renamed c.renaming) toks)))

-- A renamed condition has the value of the old one.
abbrev pub ConditionsGoAlike : Type 0
ConditionsGoAlike = (c : Change) → KeepsNames c → (file : SourceFile) (text : TextValue) (at at2 : Pos) (toks : List Token) (macros : Macros) (s : State) → Each (Fits c) toks
    → GoesAlike c (IsSame {A = Bool}) macros s (holds file at toks s) (holds (with_text file text) at2 (map (renamed c.renaming) toks) (moved c macros s))

-- ---- inclusions (6.10.2)

-- A renamed include line brings the edited file of the same path.
abbrev pub InclusionsGoAlike : Type 0
InclusionsGoAlike = (c : Change) → KeepsNames c → (old new : Source) → KeepsFiles c new → (unit : UnitValue) (earlier : ℕ) (inner inner2 : Inner) → InnerGrows inner → InnerAlike c inner inner2
    → (file : SourceFile) (text : TextValue) (at : Pos) (toks : List Token) (macros : Macros) (s : State) → Each (Fits c) toks
    → GoesAlike c (IsPutOutRenamed c) macros s (include_of (unit_context old unit earlier) inner file at toks s)
    (include_of (unit_context new unit earlier) inner2 (with_text file text) (c.renaming.move at) (map (renamed c.renaming) toks) (moved c macros s))

-- ---- files

-- The items of an edited file give the renamed tokens, whatever files they include.
abbrev pub FilesGoAlike : Type 0
FilesGoAlike = (c : Change) → KeepsNames c → (old new : Source) → KeepsFiles c new → (unit : UnitValue) (earlier room : ℕ)
    → ProcessAlike c (file_items (unit_context old unit earlier) room) (file_items (unit_context new unit earlier) room)
