-- What a renaming must keep for a unit to go on as before over the edited files (ISO/IEC 9899:1999, 5.1.1.2 phase 4).
use Rattle.std.specs.Prelude.{ℕ, ◌≡◌, ◌≤◌, true, false, List, map, Option, Some, codes}
use Rattle.std.specs.List.{list_all}
use Rattle.std.specs.Option.{is_none}
use Rattle.cs_base.specs.declared.positions.Pos.{Pos}
use Rattle.cs_base.specs.declared.tokens.Kind.{Kind}
use Rattle.cs_base.specs.Token.{Token}
use Rattle.lexer.specs.FileText.{TextValue}
use Rattle.lexer.specs.Places.{pos}
use Rattle.line_shape.specs.Signs.{is_name, is_identifier, is_punctuator}
use Rattle.line_shape.specs.Items.{lines_of}
use Rattle.macro_body.specs.Notes as expansion
use Rattle.macro_expand.specs.Renaming.{Renaming, spelled, renamed, Occurring, occurs, Respects}
use Rattle.macro_body.specs.Substitution.{digit_origins}
use Rattle.source_files.specs.Files.{Source, Table, SourceFile, source_file, bytes_opened}
use Rattle.source_files.specs.Tables.{AreFound}
use Rattle.source_files.specs.Limits.{the_limits}
use Rattle.unit_steps.specs.Notes.{Note, Happened, Defined, Undefined, Tested, Left, Named}
use Rattle.source_files.specs.Sources.{source_at}
use Rattle.edited_unit_laws.specs.Lines.{Each, KeepsToken, KeepsLine}
use Rattle.analysis.specs.Changed.{Editing, edited_table}

-- A change of files: which tokens occur in them, how these are renamed, how the files are edited, and the files that
-- the units have in the end.
pub record Change : Type 0 where
  pub occurring : Occurring
  pub renaming : Renaming
  pub editing : Editing
  pub files : Table

-- the same table, edited
abbrev pub edited_files : Change → Table
edited_files c = edited_table c.editing c.files

-- ---- names

-- A name keeps its spelling as that of a macro, and no other name gets it.
pub record KeepsName (c : Change) (text : List ℕ) : Type 0 where
  pub stays : c.renaming.macro_name text ≡ text
  pub alone : (t : Token) → occurs c.occurring t ≡ true → is_name t ≡ true → spelled c.renaming t ≡ text → t.text ≡ text

-- What is kept of the tokens that occur: names of different spellings stay different, so do those of the first macros
-- (6.10.8, and `__COUNTER__` of GNU C), and punctuators stay. What comes from no file stays, and where it stands. All that is neither an
-- identifier nor a punctuator is said to occur.
pub record KeepsNames (c : Change) : Type 0 where
  pub apart : (t u : Token) → occurs c.occurring t ≡ true → occurs c.occurring u ≡ true → is_name t ≡ true → is_name u ≡ true
      → spelled c.renaming t ≡ spelled c.renaming u → t.text ≡ u.text
  pub line : KeepsName c (codes "__LINE__")
  pub file : KeepsName c (codes "__FILE__")
  pub counter : KeepsName c (codes "__COUNTER__")
  pub signs : (t : Token) → occurs c.occurring t ≡ true → is_punctuator t.kind ≡ true → spelled c.renaming t ≡ t.text
  pub others : (kind : Kind) (origins : List (Option Pos)) (text : List ℕ) → is_identifier kind ≡ false → is_punctuator kind ≡ false → c.occurring kind origins text ≡ true
  pub untraced : (origins : List (Option Pos)) (text : List ℕ) → list_all is_none origins ≡ true
      → (c.renaming.spell origins text ≡ text) × (c.renaming.trace origins text ≡ origins)
  pub numbers : (n len : ℕ) (text : List ℕ) → (c.renaming.spell (digit_origins n len) text ≡ text) × (c.renaming.trace (digit_origins n len) text ≡ digit_origins n len)
  pub still : (at : ℕ) → c.renaming.move (pos 0 at) ≡ pos 0 at

-- ---- files

-- a token of a file occurs, and its renaming keeps what directives mean
abbrev pub Fits : Change → Token → Type 0
Fits c t = (occurs c.occurring t ≡ true) × KeepsToken c.renaming t

-- What is kept of a file: its tokens fit, its lines keep what they mean, and the edited file of its number has the
-- renamed tokens.
pub record KeepsFile (c : Change) (file : SourceFile) : Type 0 where
  pub tokens : Each (Fits c) file.text.toks
  pub lines : Each (KeepsLine c.renaming) (lines_of file.text.toks file.text.firsts)
  pub text : TextValue
  pub edited : source_at (edited_files c) file.number ≡ Some (source_file file.number file.path text)
  pub toks : text.toks ≡ map (renamed c.renaming) file.text.toks
  pub firsts : text.firsts ≡ file.text.firsts

-- What is kept of all files: so is each, the edited ones are there, and they are not too large together.
pub record KeepsFiles (c : Change) (source : Source) : Type 0 where
  pub each : (number : ℕ) (file : SourceFile) → source_at c.files number ≡ Some file → KeepsFile c file
  pub found : AreFound source (edited_files c)
  pub few_bytes : bytes_opened (edited_files c) ≤ the_limits.all_bytes

-- ---- what happens

-- the token that an expansion pasted keeps what directives mean
abbrev pub MadeKeeps : Change → expansion.Note → Type 0
MadeKeeps c (expansion.Pasted x y z) = KeepsToken c.renaming z
MadeKeeps c _ = Unit {0}

-- an expansion goes well
abbrev pub GoesWell : Change → expansion.Note → Type 0
GoesWell c note = Respects c.occurring c.renaming note × MadeKeeps c note

-- a name that a directive takes gets the new spelling of the macros of its spelling
abbrev pub KeepsMacro : Change → Token → Type 0
KeepsMacro c name = spelled c.renaming name ≡ c.renaming.macro_name name.text

-- What is kept of what happens: expansions go well, all names of one spelling that directives and conditions take get
-- one new spelling (6.10.3.5), and the tokens of an expanded include line stay as they are spelled (6.10.2).
abbrev pub KeepsNote : Change → Note → Type 0
KeepsNote c (Happened run before note) = GoesWell c note
KeepsNote c (Defined m before) = KeepsMacro c m.name
KeepsNote c (Undefined name before) = KeepsMacro c name
KeepsNote c (Tested name before) = KeepsMacro c name
KeepsNote c (Left name before) = KeepsMacro c name
KeepsNote c (Named toks) = Each (λ t. spelled c.renaming t ≡ t.text) toks
KeepsNote c _ = Unit {0}

-- All that a renaming must keep of a unit with these notes.
pub record KeepsUnit (c : Change) (source : Source) (happened : List Note) : Type 0 where
  pub names : KeepsNames c
  pub files : KeepsFiles c source
  pub notes : Each (KeepsNote c) happened
