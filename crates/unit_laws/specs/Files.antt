-- Files in which the items of lists change places inside runs of text lines (ISO/IEC 9899:1999, 6.10): the items of the file stay,
-- and each run is the old one in the new order.
use Rattle.std.specs.Prelude.{◌≡◌, ◌+◌, ◌-◌, ℕ, zero, Bool, true, false, List, length, take, drop, Some, Ok, slice_get, slice_range}
use Rattle.cs_base.specs.Token.{Token}
use Rattle.line_shape.specs.Directives.{is_run}
use Rattle.line_shape.specs.Items.{items_of}
use Rattle.line_shape.specs.declared.items.Item.{Item}
use Rattle.line_shape.specs.declared.items.ItemKind.TheVariants.{Run}
use Rattle.macro_body.specs.Hides.{toks_of}
use Rattle.macro_body.specs.Notes as expansion
use Rattle.macro_expand.specs.Expansion as expanding
use Rattle.lexer.specs.FileText.{TextValue, file_text}
use Rattle.source_files.specs.Files.{Source, SourceFile, Opened, Made, entry, Table}
use Rattle.source_files.specs.Sources.{source_at}
use Rattle.unit_steps.specs.State.{State}
use Rattle.unit_steps.specs.Texts.{UnitTextValue}
use Rattle.list_cuts.specs.Cuts.{Cut, done, keep, list, Items, ended, item, span_of, IsOrder, arranged, AreOf}
use Rattle.list_cuts.specs.CutOf.{back, is_free}
use Rattle.expansion_laws.specs.Arranging.{MarksStand, AreDistinct, in_lists, labels}
use Rattle.unit_laws.specs.Edited.{Edit}
use Rattle.unit_laws.specs.Reordered.{part_of, IsProcessed, RunsStand}
use Rattle.unit_laws.specs.Walking.{AreItemsAlike, IsOf, text_items}

-- ---- tokens that change places

-- the first token of an item is still to come behind so many tokens
abbrev pub still : Bool → ℕ → Bool
still true zero = true
still _ _ = false

abbrev mutual
  -- Tokens that are to change places are like those for which they stand: lines and places may differ, and white space before
  -- the first of each item.
  pub IsLoose : Bool → Cut → List Token → List Token → Type 0
  IsLoose loose done new run = labels loose new ≡ labels loose run
  IsLoose loose (keep n c) new run = (labels loose (take n new) ≡ labels loose (take n run)) × IsLoose (still loose n) c (drop n new) (drop n run)
  IsLoose loose (list is c) new run = AreLoose loose is new run × IsLoose (still loose (span_of is)) c (drop (span_of is) new) (drop (span_of is) run)

  -- so are the items of a list, and what stands between them
  pub AreLoose : Bool → Items → List Token → List Token → Type 0
  AreLoose loose ended new run = Unit {0}
  AreLoose loose (item n c gap more) new run =
      IsLoose true c (take n new) (take n run) × (labels (still loose n) (take gap (drop n new)) ≡ labels (still loose n) (take gap (drop n run)))
      × AreLoose (still (still loose n) gap) more (drop (n + gap) new) (drop (n + gap) run)

-- Outside lists they are the same.
abbrev pub StandsFor : Cut → List Token → List Token → Type 0
StandsFor done new run = new ≡ run
StandsFor (keep n c) new run = (take n new ≡ take n run) × StandsFor c (drop n new) (drop n run)
StandsFor (list is c) new run = AreLoose false is new run × StandsFor c (drop (span_of is) new) (drop (span_of is) run)

-- ---- cuts of files

-- the cut of the tokens of each file, by its number
abbrev pub FileCuts : Type 0
FileCuts = ℕ → Cut

-- the cut of the tokens of an item, by that of the tokens of its file
abbrev pub item_cut : Cut → Item → Cut
item_cut c it = part_of c it.from (it.to - it.from)

-- the items of a text
abbrev pub items_at : TextValue → List Item
items_at text = items_of text.toks text.firsts

-- The text of the edited file is the old one in the new order, but for lines, places and white space before items: its items
-- stand where they stood, no list goes on from one of them to another, and lists stand in runs of text lines alone.
pub record TextStands (order : List ℕ) (c : Cut) (text text2 : TextValue) : Type 0 where
  pub new : List Token
  pub many : length new ≡ length text.toks
  pub stands : StandsFor c new text.toks
  pub toks : text2.toks ≡ arranged order c new
  pub items : items_at text2 ≡ items_at text
  pub begins : (it : Item) → IsOf (items_at text) it → in_lists 0 c it.from ≡ false
  pub ends : (it : Item) → IsOf (items_at text) it → in_lists 0 c it.to ≡ false
  pub others : (it : Item) → IsOf (items_at text) it → is_run it.kind ≡ false → is_free (it.to - it.from) (back it.from c) ≡ true

-- The law: then the items of the edited file are those of the old one, but for runs.
abbrev pub ItemsAreAlike : Type 0
ItemsAreAlike = (n : ℕ) (order : List ℕ) (c : Cut) (text text2 : TextValue) → IsOrder n order → AreOf n c → TextStands order c text text2
    → AreItemsAlike (text_items text) (text_items text2)

-- The law: a text without lists stands as it is.
abbrev pub TextsStay : Type 0
TextsStay = (order : List ℕ) (text : TextValue) → TextStands order done text text

-- So it is with each file that was opened, whose lists have so many items; the files that the program makes have no lists.
pub record FilesStand (edit : Edit) (old : Source) (n : ℕ) (order : List ℕ) (cuts : FileCuts) (files : Table) : Type 0 where
  pub of : (number : ℕ) (path bytes : List ℕ) → slice_get files number ≡ Some (entry path (Opened bytes)) → old path ≡ Some bytes → AreOf n (cuts number)
  pub opened : (number : ℕ) (path bytes : List ℕ) (text text2 : TextValue) → slice_get files number ≡ Some (entry path (Opened bytes)) → old path ≡ Some bytes
      → file_text number bytes ≡ Ok text → file_text number (edit path bytes) ≡ Ok text2 → TextStands order (cuts number) text text2
  pub made : (number : ℕ) (path bytes : List ℕ) → slice_get files number ≡ Some (entry path (Made bytes)) → cuts number ≡ done

-- ---- runs

-- What is known of a run of text lines that the unit reaches: its file, the item and its tokens, what it is expanded to, where this
-- stands in the unit, that no list goes on from it to another run, and the cut of the run, by its marks.
pub record IsRunIn (files : Table) (c : Cut) (text : UnitTextValue) (file : SourceFile) (k : ℕ) (it : Item) (run : List Token) (s : State) (e : expansion.Expanded) (cut : Cut) : Type 0 where
  pub kept : source_at files file.number ≡ Some file
  pub item : slice_get (items_at file.text) k ≡ Some it
  pub is_run : it.kind ≡ Run
  pub run_is : run ≡ slice_range file.text.toks it.from it.to
  pub reached : IsProcessed text file k s.before (length e.toks)
  pub expands : expanding.expansion s.macros file.path run s.work ≡ Ok e
  pub toks : (m : ℕ) (t : Token) → slice_get (toks_of e.toks) m ≡ Some t → slice_get text.toks (s.before + m) ≡ Some t
  pub begins : in_lists 0 c s.before ≡ false
  pub ends : in_lists 0 c (s.before + length e.toks) ≡ false
  pub distinct : AreDistinct run
  pub marks : MarksStand cut (part_of c s.before (length e.toks)) run (toks_of e.toks)

-- In each run that the unit reaches stand the lists that the cut of its file has there, and no others: their marks are those of the
-- lists of the unit.
abbrev pub RunsMark : FileCuts → Table → Cut → UnitTextValue → Type 0
RunsMark cuts files c text = (file : SourceFile) (k : ℕ) (it : Item) (run : List Token) (s : State) (e : expansion.Expanded) (cut : Cut)
    → IsRunIn files c text file k it run s e cut → MarksStand (item_cut (cuts file.number) it) (part_of c s.before (length e.toks)) run (toks_of e.toks)

-- The law: then each run of the edited files is the old one in the new order.
abbrev pub RunsStandInFiles : Type 0
RunsStandInFiles = (edit : Edit) (n : ℕ) (order : List ℕ) (cuts : FileCuts) (old : Source) (files : Table) (c : Cut) (text : UnitTextValue)
    → IsOrder n order → FilesStand edit old n order cuts files → RunsMark cuts files c text → RunsStand edit old order files c text
