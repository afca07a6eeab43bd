-- Where a list of a file stands: a list of the functions in a unit, in a run that the unit reached, with its marks in the file, in the
-- run, in what this is expanded to, and in the unit (ISO/IEC 9899:1999, 5.1.1.2 phases 3, 4 and 7).
use Rattle.std.specs.Prelude.{ℕ, ◌+◌, ◌<◌, ◌≡◌, Option, List, length, map, Some, Ok, slice_get, slice_range}
use Rattle.std.specs.Option.{option_map_or}
use Rattle.cs_base.specs.declared.positions.Part.{Part}
use Rattle.cs_base.specs.Token.{Token}
use Rattle.c_types.specs.declared.lists.List.{List as NameList}
use Rattle.line_shape.specs.declared.items.Item.{Item}
use Rattle.line_shape.specs.declared.items.ItemKind.TheVariants.{Run}
use Rattle.macro_body.specs.Hides.{toks_of}
use Rattle.macro_body.specs.Notes.{Expanded}
use Rattle.unit_steps.specs.Below.macro_expand.Expansion.{expansion}
use Rattle.source_files.specs.Files.{Source, SourceFile}
use Rattle.source_files.specs.Sources.{source_at}
use Rattle.unit_laws.specs.UnitLinks.{IsIn}
use Rattle.unit_steps.specs.State.{State}
use Rattle.ws_file.specs.Workspace.{WorkspaceValue}
use Rattle.analysis.specs.Analysis.{UnitAnalysis, AnalysisValue}
use Rattle.reordered_text_laws.specs.Marks.{AreOfList}
use Rattle.reordered_text_laws.specs.Runs.{AreSigned}
use Rattle.reordered_text_laws.specs.Trees.{IsAmong}
use Rattle.reordered_text_laws.proofs.PartMarks.{later_by}
use Rattle.unit_laws.specs.Files.{items_at}
use Rattle.template_rules.specs.FileLists.{all_found, lists_in, begun_before}
use Rattle.template_rules.specs.Lists.{separators}
use Rattle.template_meaning.specs.Accepted.{IsAccepted}
use Rattle.template_meaning.specs.Units.{own_lists, HavePrototypes}

pub record ListInFile (a : AnalysisValue) (members : List Part) (file : SourceFile) (t : List ℕ) : Type 0 where
  -- the list in a unit
  pub unit : UnitAnalysis
  pub there : IsIn a.units unit
  pub list : NameList
  pub own : IsAmong (own_lists members unit) list
  -- the run of its marks, and what this is expanded to behind so many tokens of the unit
  pub k : ℕ
  pub it : Item
  pub run : List Token
  pub s : State
  pub e : Expanded
  pub before : ℕ
  pub item : slice_get (items_at file.text) k ≡ Some it
  pub is_run : it.kind ≡ Run
  pub run_is : run ≡ slice_range file.text.toks it.from it.to
  pub expands : expansion s.macros file.path run s.work ≡ Ok e
  pub toks : (m : ℕ) (x : Token) → slice_get (toks_of e.toks) m ≡ Some x → slice_get unit.text.toks (before + m) ≡ Some x
  -- its marks in the run, and in what this is expanded to: the same tokens
  pub in_run : List ℕ
  pub in_out : List ℕ
  pub run_marks : AreOfList (length run) in_run
  pub out_marks : AreOfList (length (toks_of e.toks)) in_out
  pub same : map (slice_get run) in_run ≡ map (slice_get (toks_of e.toks)) in_out
  pub signed : AreSigned (toks_of e.toks) in_out
  -- and in the file, where it begins at these characters, and in the unit
  pub chars : t ≡ map (λ (o : Option Token). option_map_or (λ (x : Token). x.at.at) o 0) (map (slice_get run) in_run)
  pub file_marks : map (begun_before file.text.toks) t ≡ later_by it.from in_run
  pub unit_marks : separators list ≡ later_by before in_out

-- The law: so stands each list of a file, where no offence stands against an order that is not empty.
abbrev pub ListsHaveRuns : Type 0
ListsHaveRuns = (source : Source) (ws : WorkspaceValue) (a : AnalysisValue) (members : List Part) (order : List ℕ) → IsAccepted source ws a members order → 0 < length order
    → ((u : UnitAnalysis) → IsIn a.units u → HavePrototypes members u) → (file : SourceFile) → source_at a.table file.number ≡ Some file
    → (t : List ℕ) → IsAmong (lists_in (all_found members a) file.number) t → ListInFile a members file t
