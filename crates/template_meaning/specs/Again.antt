-- A run that is processed more than once, in one unit or in several (ISO/IEC 9899:1999, 6.10.2): where nothing stands against a
-- new order, each processing has the same lists of the functions.
use Rattle.std.specs.Prelude.{ℕ, ◌+◌, ◌≡◌, ◌⊎◌, true, List, Some, slice_get}
use Rattle.cs_base.specs.declared.positions.Part.{Part}
use Rattle.c_types.specs.declared.lists.List.{List as NameList}
use Rattle.source_files.specs.Files.{Source}
use Rattle.unit_laws.specs.UnitLinks.{IsIn}
use Rattle.unit_steps.specs.declared.events.Reached.{Reached}
use Rattle.ws_file.specs.Workspace.{WorkspaceValue}
use Rattle.analysis.specs.Analysis.{UnitAnalysis, AnalysisValue}
use Rattle.template_rules.specs.Functions.{origin_of}
use Rattle.template_rules.specs.Lists.{some_mark}
use Rattle.template_rules.specs.MacroOffences.{is_same_list, item_of, is_item, is_mark_in}
use Rattle.template_meaning.specs.Accepted.{IsAccepted}
use Rattle.template_meaning.specs.Clear.{IsOwn}

-- token k is the name of the list, one of its parentheses, or a comma between its items
abbrev pub IsMarkOf : NameList → ℕ → Type 0
IsMarkOf l k = (k ≡ l.name) ⊎ ((k ≡ l.begin) ⊎ ((k ≡ l.close) ⊎ IsIn l.commas k))

-- A list of unit u, of which k is a mark, stands again in unit v: a list of the functions has the same positions, and its mark at
-- that of k was put out for this reached item, counted from 1.
pub record StandsAgain (members : List Part) (u v : UnitAnalysis) (l : NameList) (k number : ℕ) : Type 0 where
  pub list : NameList
  pub there : IsIn v.bound.declarators list ⊎ IsIn v.bound.calls list
  pub own : IsOwn members v list
  pub same : is_same_list u.text.toks v.text.toks l list ≡ true
  pub mark : some_mark (is_mark_in v.text.toks v.text.reached (origin_of u.text.toks k) number) list ≡ true

-- So it does in each processing of the item for which the mark was put out.
pub record StandsInEach (a : AnalysisValue) (members : List Part) (u : UnitAnalysis) (l : NameList) (k : ℕ) : Type 0 where
  pub item : Reached
  pub is : item_of u.text.reached k ≡ Some item
  pub again : (v : UnitAnalysis) (j : ℕ) (r : Reached) → IsIn a.units v → slice_get v.text.reached j ≡ Some r → is_item item r ≡ true → StandsAgain members u v l k (j + 1)

-- The law: so it is with each list of the functions and each of its marks, where no offence stands.
abbrev pub ListsStandInEach : Type 0
ListsStandInEach = (source : Source) (ws : WorkspaceValue) (a : AnalysisValue) (members : List Part) (order : List ℕ) → IsAccepted source ws a members order
    → (u : UnitAnalysis) → IsIn a.units u → (l : NameList) → IsIn u.bound.declarators l ⊎ IsIn u.bound.calls l → IsOwn members u l → (k : ℕ) → IsMarkOf l k → StandsInEach a members u l k
