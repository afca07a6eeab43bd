-- Units over files as they were and over edited ones, where the lines of directives stay, and the runs of text lines do in
-- the edited files what they did (ISO/IEC 9899:1999, 5.1.1.2 phase 4, 6.10).
use Rattle.std.specs.Prelude.{◌≡◌, ◌≤◌, ◌<◌, ℕ, ◌+◌, ◌||◌, Bool, true, false, ◌⊎◌, List, [], ◌∷◌, ◌++◌, map, length, None, Some, Ok, codes, slice_get}
use Rattle.std.specs.Str.{bytes_eq}
use Rattle.cs_base.specs.declared.tokens.Kind.{Kind}
use Rattle.cs_base.specs.Token.{Token, origin_at}
use Rattle.cs_base.specs.Units.{UnitValue}
use Rattle.lexer.specs.FileText.{TextValue, file_text}
use Rattle.line_shape.specs.Directives.{is_run}
use Rattle.line_shape.specs.declared.items.ItemKind.TheVariants.{Run}
use Rattle.macro_body.specs.declared.definitions.Definition.{Definition}
use Rattle.macro_body.specs.Hides.{toks_of}
use Rattle.macro_body.specs.Notes as expansion
use Rattle.macro_expand.specs.Expansion as expanding
use Rattle.source_files.specs.Files.{Source, Opened, Made, entry, Table, SourceFile, source_file, Carried}
use Rattle.source_files.specs.Limits.{the_limits}
use Rattle.source_files.specs.Tables.{IsGrown, AreFound}
use Rattle.unit_steps.specs.Notes.{Note, Reaches, Happened}
use Rattle.unit_steps.specs.State.{State, Did, did}
use Rattle.include_tree.specs.Walk.{ItemText, item_texts, items_in}
use Rattle.include_tree.specs.Unit.{unit_outcome}
use Rattle.expansion_laws.specs.Alike.{stands_for_line}
use Rattle.list_cuts.specs.Cuts.{Cut, IsOrder, arranged, AreOf}
use Rattle.list_cuts.specs.CutOf.{back}
use Rattle.unit_laws.specs.Edited.{Edit, IsEditedSource, edited_carried, edited_state}

-- ---- files

-- an item of the edited file is what it was, where it is no run of text lines
abbrev pub IsItemAlike : ItemText → ItemText → Type 0
IsItemAlike i j = (j.kind ≡ i.kind) × (is_run i.kind ≡ false → j ≡ i)

-- so are all items of a file, one by one
abbrev pub AreItemsAlike : List ItemText → List ItemText → Type 0
AreItemsAlike [] [] = Unit {0}
AreItemsAlike (i ∷ is) (j ∷ js) = IsItemAlike i j × AreItemsAlike is js
AreItemsAlike _ _ = ⊥

-- the items of a text
abbrev pub text_items : TextValue → List ItemText
text_items text = item_texts text.toks text.firsts

-- An edit keeps how long the files are that paths hold, and their items but for runs.
pub record KeepsTexts (edit : Edit) (old : Source) : Type 0 where
  pub sizes : (path bytes : List ℕ) → old path ≡ Some bytes → length (edit path bytes) ≡ length bytes
  pub items : (number : ℕ) (path bytes : List ℕ) (text : TextValue) → old path ≡ Some bytes → file_text number bytes ≡ Ok text
      → (text2 : TextValue) × (file_text number (edit path bytes) ≡ Ok text2) × AreItemsAlike (text_items text) (text_items text2)

-- the file with another text
abbrev pub with_text : SourceFile → TextValue → SourceFile
with_text file text = source_file file.number file.path text

-- This is the text of the edited file, which has these bytes in the table; a file that the program makes is not edited.
abbrev pub IsEdited : Edit → Source → Table → SourceFile → TextValue → Type 0
IsEdited edit old files file text =
    ((bytes : List ℕ) × (slice_get files file.number ≡ Some (entry file.path (Opened bytes))) × (old file.path ≡ Some bytes)
    × (file_text file.number bytes ≡ Ok file.text) × (file_text file.number (edit file.path bytes) ≡ Ok text))
    ⊎ ((bytes : List ℕ) × (slice_get files file.number ≡ Some (entry file.path (Made bytes))) × (file_text file.number bytes ≡ Ok file.text) × (text ≡ file.text))

-- ---- notes

-- one of these
abbrev pub IsOf : {X : Type 0} → List X → X → Type 0
IsOf xs x = (k : ℕ) × (slice_get xs k ≡ Some x)

-- each item that notes tell to be reached is so where at most so many tokens were put out before
abbrev pub IsUpTo : ℕ → Note → Type 0
IsUpTo most (Reaches number k evaluated before) = before ≤ most
IsUpTo most _ = Unit {0}

abbrev pub AreUpTo : ℕ → List Note → Type 0
AreUpTo most [] = Unit {0}
AreUpTo most (note ∷ notes) = IsUpTo most note × AreUpTo most notes

-- or at least so many
abbrev pub IsFrom : ℕ → Note → Type 0
IsFrom least (Reaches number k evaluated before) = least ≤ before
IsFrom least _ = Unit {0}

abbrev pub AreFrom : ℕ → List Note → Type 0
AreFrom least [] = Unit {0}
AreFrom least (note ∷ notes) = IsFrom least note × AreFrom least notes

-- an item is reached where so many were
abbrev pub IsReachedAt : ℕ → List Note → Type 0
IsReachedAt before notes = (number k : ℕ) × (evaluated : Bool) × IsOf notes (Reaches number k evaluated before)

-- What a step puts out stands among all tokens of the unit, and what happens then among its notes: items reached before it are
-- so where at most `from` tokens were put out, and those behind it where at least `to` were; if tokens stand behind, an item is
-- reached there. The table of files is that of the unit, so far.
pub record Stands (told : List Note) (all : List Token) (files : Table) (from to : ℕ) (notes : List Note) (toks : List Token) (table : Table) : Type 0 where
  pub earlier : List Note
  pub later : List Note
  pub among : told ≡ earlier ++ (notes ++ later)
  pub up : AreUpTo from earlier
  pub down : AreFrom to later
  pub next : to < length all → IsReachedAt to later
  pub room : to ≤ length all
  pub stand : (m : ℕ) (t : Token) → slice_get toks m ≡ Some t → slice_get all (from + m) ≡ Some t
  pub grown : IsGrown table files

-- ---- runs

-- for this word there stands the number of its line, where no line defines it (6.10.8), or the next number of the unit, which
-- GNU C has
abbrev pub is_line_word : List ℕ → Bool
is_line_word text = bytes_eq text (codes "__LINE__") || bytes_eq text (codes "__COUNTER__")

-- What is known of a run of text lines that a unit with these notes, tokens and files reaches: its file and the edited one, the
-- item of both, what it is expanded to, that a macro that stands for the number of a line or of the unit is one of the first,
-- and where what happens and what is brought stand in the unit.
pub record IsReachedRun (edit : Edit) (old : Source) (told : List Note) (all : List Token) (files : Table) (file : SourceFile) (text : TextValue) (k : ℕ) (i j : ItemText) (s : State) (e : expansion.Expanded) : Type 0 where
  pub edited : IsEdited edit old files file text
  pub item : slice_get (items_in file) k ≡ Some i
  pub item2 : slice_get (text_items text) k ≡ Some j
  pub run : i.kind ≡ Run
  pub expands : expanding.expansion s.macros file.path i.toks s.work ≡ Ok e
  pub lines : (name : List ℕ) (m : Definition) → s.macros name ≡ Some m → stands_for_line m.form ≡ true → (origin_at m.name 0 ≡ None) × (is_line_word name ≡ true)
  pub stands : Stands told all files s.before (s.before + length e.toks) (Reaches file.number k false s.before ∷ map (Happened true s.before) e.notes) (toks_of e.toks) s.table

-- a token, as it is read: its kind and its spelling
abbrev pub plain : Token → Kind × List ℕ
plain t = (t.kind, t.text)

abbrev pub plains : List Token → List (Kind × List ℕ)
plains toks = map plain toks

-- Tokens behind so many others come to these in the new order, whatever follows them.
abbrev pub GoAlong : List ℕ → Cut → ℕ → List Token → List Token → Type 0
GoAlong order c before xs ys = (rest : List (Kind × List ℕ))
    → arranged order (back before c) (plains xs ++ rest) ≡ plains ys ++ arranged order (back (before + length xs) c) rest

-- The run of the edited file asks for as much work, and brings as many tokens, to which the old ones come in the new order.
pub record RunGoes (order : List ℕ) (c : Cut) (file : SourceFile) (j : ItemText) (s : State) (e : expansion.Expanded) : Type 0 where
  pub e2 : expansion.Expanded
  pub expands : expanding.expansion s.macros file.path j.toks s.work ≡ Ok e2
  pub left : e2.left ≡ e.left
  pub many : length e2.toks ≡ length e.toks
  pub goes : GoAlong order c s.before (toks_of e.toks) (toks_of e2.toks)

abbrev pub RunsGo : Edit → Source → List ℕ → Cut → List Note → List Token → Table → Type 0
RunsGo edit old order c told all files = (file : SourceFile) (text : TextValue) (k : ℕ) (i j : ItemText) (s : State) (e : expansion.Expanded)
    → IsReachedRun edit old told all files file text k i j s e → RunGoes order c file j s e

-- ---- the law

-- The unit over the edited files brings the tokens in the new order; the state behind it is the same, but for the bytes of
-- files.
pub record UnitGoes (edit : Edit) (order : List ℕ) (c : Cut) (new : Source) (number : ℕ) (unit : UnitValue) (before : Carried) (d : Did (List Token)) : Type 0 where
  pub toks : List Token
  pub notes : List Note
  pub is : unit_outcome the_limits file_text new number unit (edited_carried edit before) ≡ Ok (did toks notes (edited_state edit d.state))
  pub goes : plains toks ≡ arranged order c (plains d.value)
  pub many : length toks ≡ length d.value

-- The law: so it is where each reached run goes so.
abbrev pub UnitsGoAlike : Type 0
UnitsGoAlike = (edit : Edit) (n : ℕ) (order : List ℕ) (c : Cut) (old new : Source) (number : ℕ) (unit : UnitValue) (before : Carried) (d : Did (List Token))
    → IsOrder n order → AreOf n c → unit_outcome the_limits file_text old number unit before ≡ Ok d → AreFound old before.table → IsEditedSource edit old new
    → KeepsTexts edit old → RunsGo edit old order c d.notes d.value d.state.table → UnitGoes edit order c new number unit before d
