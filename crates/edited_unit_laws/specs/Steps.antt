-- The steps of a unit over the files as they were, and over the edited ones (ISO/IEC 9899:1999, 6.10).
use Rattle.std.specs.Prelude.{◌≡◌, ℕ, true, List, map, Some, None, Ok, Err}
use Rattle.cs_base.specs.Token.{Token}
use Rattle.line_shape.specs.Signs.{is_name}
use Rattle.macro_body.specs.declared.definitions.Definition.{Definition}
use Rattle.macro_body.specs.Macro.{Table as Macros}
use Rattle.macro_expand.specs.Renaming.{renamed, occurs, Keeps}
use Rattle.lexer.specs.FileText.{TextValue}
use Rattle.source_files.specs.Files.{SourceFile, source_file}
use Rattle.include_tree.specs.Including.{Process, Inner}
use Rattle.source_files.specs.Tables.{IsGrown}
use Rattle.unit_steps.specs.State.{State, Did, did, Outcome}
use Rattle.include_tree.specs.Walk.{Stepped}
use Rattle.edited_unit_laws.specs.Lines.{Each, KeepsToken}
use Rattle.edited_unit_laws.specs.Keeping.{Change, Fits, KeepsFile, KeepsMacro, KeepsNote}
use Rattle.edited_unit_laws.specs.Renamed.{renamed_happening, renamed_state, renamed_stepped}

-- an identifier that occurs, and that a directive or a condition took
pub record IsTaken (c : Change) (name : Token) : Type 0 where
  pub occurs : occurs c.occurring name ≡ true
  pub named : is_name name ≡ true
  pub keeps : KeepsMacro c name

-- A state and its macros over the edited files: the renaming keeps the macros, and the names that were taken.
pub record KeepsState (c : Change) (new : Macros) (s : State) : Type 0 where
  pub macros : Keeps c.occurring c.renaming s.macros new
  pub bodies : (name : List ℕ) (m : Definition) → s.macros name ≡ Some m → Each (KeepsToken c.renaming) m.body
  pub names : Each (IsTaken c) s.names

-- the state over the edited files
abbrev pub moved : Change → Macros → State → State
moved c macros s = renamed_state c.editing c.renaming macros s

-- What a step gives over the edited files, where it gave this: a value that goes with it, the same notes, renamed, and the
-- state over the edited files, which is kept.
pub record Follows {A : Type 0} (c : Change) (GoesWith : A → A → Type 0) (d : Did A) (new : Outcome A) : Type 0 where
  pub value : A
  pub macros : Macros
  pub is : new ≡ Ok (did value (map (renamed_happening c.renaming) d.notes) (moved c macros d.state))
  pub goes_with : GoesWith d.value value
  pub kept : KeepsState c macros d.state

-- A step and the same step over the edited files: where the state before is kept, the table behind it grows into that of
-- the end, and what happened keeps what it must, the new one follows.
abbrev pub GoesAlike : {A : Type 0} → Change → (A → A → Type 0) → Macros → State → Outcome A → Outcome A → Type 0
GoesAlike c GoesWith macros s (Ok d) new =
    IsGrown d.state.table c.files → KeepsState c macros s → Each (KeepsNote c) d.notes → Follows c GoesWith d new
GoesAlike c GoesWith macros s (Err fault) new = Unit {0}

-- ---- what steps give

-- the tokens, renamed, each of which fits
abbrev pub AreRenamed : Change → List Token → List Token → Type 0
AreRenamed c toks new = (new ≡ map (renamed c.renaming) toks) × Each (Fits c) toks

-- the tokens that a step puts out, renamed
abbrev pub IsPutOutRenamed : Change → List Token → List Token → Type 0
IsPutOutRenamed c toks new = new ≡ map (renamed c.renaming) toks

-- what an item gives, renamed
abbrev pub IsStepped : Change → Stepped → Stepped → Type 0
IsStepped c d new = new ≡ renamed_stepped c.renaming d

-- the same value
abbrev pub IsSame : {A : Type 0} → A → A → Type 0
IsSame a b = b ≡ a

-- the file of the same number and path, with another text
abbrev pub with_text : SourceFile → TextValue → SourceFile
with_text file text = source_file file.number file.path text

-- ---- included files

-- a file that is opened, and the edited one
abbrev pub OpensAlike : Change → SourceFile → SourceFile → Type 0
OpensAlike c file new = (k : KeepsFile c file) × (new ≡ with_text file k.text)

-- the items of an included file, as they were and edited
abbrev pub ProcessAlike : Change → Process → Process → Type 0
ProcessAlike c process new = (file : SourceFile) (k : KeepsFile c file) (macros : Macros) (s : State)
    → GoesAlike c (IsPutOutRenamed c) macros s (process file s) (new (with_text file k.text) (moved c macros s))

abbrev pub InnerAlike : Change → Inner → Inner → Type 0
InnerAlike c None None = Unit {0}
InnerAlike c (Some process) (Some new) = ProcessAlike c process new
InnerAlike c _ _ = ⊥

-- the table behind a step has grown
abbrev pub Grows : {A : Type 0} → State → Outcome A → Type 0
Grows s (Ok d) = IsGrown s.table d.state.table
Grows s (Err fault) = Unit {0}

abbrev pub ProcessGrows : Process → Type 0
ProcessGrows process = (file : SourceFile) (s : State) → Grows s (process file s)

abbrev pub InnerGrows : Inner → Type 0
InnerGrows None = Unit {0}
InnerGrows (Some process) = ProcessGrows process
