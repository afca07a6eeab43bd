-- Units over files in which the items of lists change places (ISO/IEC 9899:1999, 5.1.1.2 phase 4, 6.10.3).
use Rattle.std.specs.Prelude.{◌≡◌, ◌≤◌, ◌<◌, ℕ, ◌+◌, true, false, List, length, None, Some, Ok, slice_get}
use Rattle.cs_base.specs.Token.{Token}
use Rattle.cs_base.specs.Units.{UnitValue}
use Rattle.line_shape.specs.declared.items.ItemKind.TheVariants.{Run}
use Rattle.macro_body.specs.Hides.{toks_of}
use Rattle.macro_body.specs.Notes as expansion
use Rattle.macro_expand.specs.Expansion as expanding
use Rattle.lexer.specs.FileText.{TextValue}
use Rattle.source_files.specs.Files.{Source, Table, SourceFile, Carried}
use Rattle.source_files.specs.Tables.{IsGrown, AreFound}
use Rattle.unit_steps.specs.declared.events.Event.{Event}
use Rattle.unit_steps.specs.declared.events.EventKind.TheVariants as kind
use Rattle.unit_steps.specs.declared.events.Reached.{Reached}
use Rattle.unit_steps.specs.State.{State}
use Rattle.unit_steps.specs.Texts.{UnitTextValue}
use Rattle.include_tree.specs.Walk.{ItemText, items_in}
use Rattle.include_tree.specs.Preprocessed.{Preprocessed, preprocessed}
use Rattle.list_cuts.specs.Cuts.{Cut, IsOrder, arranged, AreOf}
use Rattle.list_cuts.specs.CutOf.{front, back}
use Rattle.expansion_laws.specs.Arranging.{SignsStand, MarksStand, AreDistinct, in_lists, StandFor}
use Rattle.unit_laws.specs.Edited.{Edit, IsEditedSource, edited_carried}
use Rattle.unit_laws.specs.Walking.{is_line_word, KeepsTexts, text_items, IsEdited, IsOf, plains}

-- ---- lists in a unit

-- The lists of a cut stand in a unit: their marks were put in by no macro; no item is reached in a list; and no `__LINE__` or
-- `__COUNTER__` is replaced in one.
pub record ListsStand (c : Cut) (text : UnitTextValue) : Type 0 where
  pub marks : SignsStand c text.toks
  pub reached : (r : Reached) → IsOf text.reached r → in_lists 0 c r.before ≡ false
  pub lines : (e : Event) (name : Token) → IsOf text.events e → e.kind ≡ kind.Replaced → e.name ≡ Some name → e.def ≡ None → is_line_word name.text ≡ true
      → in_lists 0 c e.before ≡ false

-- the cut of so many tokens behind so many others, by that of the tokens of the unit
abbrev pub part_of : Cut → ℕ → ℕ → Cut
part_of c before count = front count (back before c)

-- ---- runs

-- Of the items that a unit reached, one is item k of the file, with `before` tokens put out before it. It alone put out the next
-- ones, so many.
pub record IsProcessed (text : UnitTextValue) (file : SourceFile) (k before count : ℕ) : Type 0 where
  pub number : ℕ
  pub item : Reached
  pub is : slice_get text.reached number ≡ Some item
  pub file_is : item.file ≡ file.number
  pub item_is : item.item ≡ k
  pub before_is : item.before ≡ before
  pub earlier : (i : ℕ) (q : Reached) → i < number → slice_get text.reached i ≡ Some q → q.before ≤ before
  pub later : (i : ℕ) (q : Reached) → number < i → slice_get text.reached i ≡ Some q → before + count ≤ q.before
  pub next : before + count < length text.toks → (i : ℕ) × (q : Reached) × (number < i) × (slice_get text.reached i ≡ Some q) × (q.before ≡ before + count)

-- What is known of a run of text lines that the unit reaches: its file and the edited one, the item of both, what it is
-- expanded to, where this stands in the unit, that no list goes on from it to another run, and the cut of the run.
pub record IsRunOf (edit : Edit) (old : Source) (files : Table) (c : Cut) (text : UnitTextValue) (file : SourceFile) (file_text2 : TextValue) (k : ℕ) (i j : ItemText) (s : State) (e : expansion.Expanded) (cut : Cut) : Type 0 where
  pub edited : IsEdited edit old files file file_text2
  pub item : slice_get (items_in file) k ≡ Some i
  pub item2 : slice_get (text_items file_text2) k ≡ Some j
  pub run : i.kind ≡ Run
  pub reached : IsProcessed text file k s.before (length e.toks)
  pub expands : expanding.expansion s.macros file.path i.toks s.work ≡ Ok e
  pub toks : (m : ℕ) (t : Token) → slice_get (toks_of e.toks) m ≡ Some t → slice_get text.toks (s.before + m) ≡ Some t
  pub begins : in_lists 0 c s.before ≡ false
  pub ends : in_lists 0 c (s.before + length e.toks) ≡ false
  pub marks : MarksStand cut (part_of c s.before (length e.toks)) i.toks (toks_of e.toks)

-- The run of the edited file is this one in the new order, but for lines, places and white space before items; no token of
-- the run stands in it twice.
pub record RunStands (order : List ℕ) (i j : ItemText) (cut : Cut) : Type 0 where
  pub new : List Token
  pub distinct : AreDistinct i.toks
  pub stands : StandFor cut new i.toks
  pub run : j.toks ≡ arranged order cut new

-- So it is with each; the unit has these files in the end.
abbrev pub RunsStand : Edit → Source → List ℕ → Table → Cut → UnitTextValue → Type 0
RunsStand edit old order files c text = (file : SourceFile) (file_text2 : TextValue) (k : ℕ) (i j : ItemText) (s : State) (e : expansion.Expanded) (cut : Cut)
    → IsRunOf edit old files c text file file_text2 k i j s e cut → RunStands order i j cut

-- ---- the law

-- The unit over the edited files brings its tokens in the new order; what is carried on is the same but for the bytes of
-- files, and tells what the paths held; numbers of files only come behind those that there are.
pub record UnitIsReordered (edit : Edit) (order : List ℕ) (c : Cut) (old new_source : Source) (number : ℕ) (unit : UnitValue) (before : Carried) (p : Preprocessed) : Type 0 where
  pub new : Preprocessed
  pub is : preprocessed new_source number unit (edited_carried edit before) ≡ Ok new
  pub toks : plains new.text.toks ≡ arranged order c (plains p.text.toks)
  pub after : new.after ≡ edited_carried edit p.after
  pub found : AreFound old p.after.table
  pub grown : IsGrown before.table p.after.table

-- The law.
abbrev pub UnitsAreReordered : Type 0
UnitsAreReordered = (edit : Edit) (n : ℕ) (order : List ℕ) (c : Cut) (old new : Source) (number : ℕ) (unit : UnitValue) (before : Carried) (p : Preprocessed)
    → IsOrder n order → AreOf n c → preprocessed old number unit before ≡ Ok p → AreFound old before.table → IsEditedSource edit old new → KeepsTexts edit old
    → ListsStand c p.text → RunsStand edit old order p.after.table c p.text → UnitIsReordered edit order c old new number unit before p
