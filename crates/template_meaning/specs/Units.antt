-- The lists of the functions in a unit, by their marks, where nothing stands against a new order (ISO/IEC 9899:1999, 6.5.2.2,
-- 6.7.5.3, 6.10.3 and 6.10.8).
use Rattle.std.specs.Prelude.{ℕ, ◌<◌, ◌≡◌, true, false, List, ◌++◌, filter, length, map}
use Rattle.cs_base.specs.declared.positions.Part.{Part}
use Rattle.c_types.specs.declared.lists.List.{List as NameList}
use Rattle.c_types.specs.Parameters.{parameters_in}
use Rattle.source_files.specs.Files.{Source}
use Rattle.unit_laws.specs.UnitLinks.{IsIn}
use Rattle.ws_file.specs.Workspace.{WorkspaceValue}
use Rattle.analysis.specs.Analysis.{UnitAnalysis, AnalysisValue}
use Rattle.list_cuts.specs.Cuts.{Cut, AreOf}
use Rattle.template_rules.specs.Functions.{names_function}
use Rattle.template_rules.specs.Lists.{separators}
use Rattle.template_rules.specs.Marks.{is_across}
use Rattle.template_rules.specs.NameOffences.{has_prototype}
use Rattle.reordered_text_laws.specs.Marks.{marks_of, IsMarked, Each, tidied}
use Rattle.reordered_text_laws.specs.Runs.{AreSigned}
use Rattle.reordered_text_laws.specs.Trees.{IsAmong}
use Rattle.unit_laws.specs.Reordered.{ListsStand}
use Rattle.template_meaning.specs.Accepted.{IsAccepted}
use Rattle.template_meaning.specs.Clear.{IsOwn}
use Rattle.reordered.specs.Reordered.{unit_cut}

-- the lists that belong to the functions
abbrev pub own_lists : List Part → UnitAnalysis → List NameList
own_lists members u = filter (λ l. names_function members u.text.toks u.bound.names l.name) (u.bound.declarators ++ u.bound.calls)

-- the marks of each: its `(`, its commas, and its `)`
abbrev pub own_marks : List Part → UnitAnalysis → List (List ℕ)
own_marks members u = map separators (own_lists members u)

-- the cut of the unit, in which tokens that stay are told together
abbrev pub run_cut : List Part → UnitAnalysis → Cut
run_cut members u = tidied 0 (unit_cut members u)

-- each declarator of a function has a parameter type list without `...`
abbrev pub HavePrototypes : List Part → UnitAnalysis → Type 0
HavePrototypes members u = (l : NameList) → IsIn u.bound.declarators l → IsOwn members u l → has_prototype (parameters_in u.tree.under) l.name ≡ true

-- The lists stand in the unit, their marks are those of the cut, and no others are, and each has so many items.
pub record UnitHasLists (members : List Part) (order : List ℕ) (u : UnitAnalysis) : Type 0 where
  pub stand : ListsStand (run_cut members u) u.text
  pub each : AreOf (length order) (run_cut members u)
  pub marked : IsMarked 0 0 (length u.text.toks) (run_cut members u)
  pub marks : Each (IsAmong (own_marks members u)) (marks_of 0 (run_cut members u))
  pub signed : Each (AreSigned u.text.toks) (own_marks members u)
  pub named : (l : NameList) → IsAmong (own_lists members u) l → l.name < l.begin
  pub one_run : (l : NameList) → IsAmong (own_lists members u) l → is_across u.text.reached l ≡ false
  pub all : 0 < length order → Each (IsAmong (marks_of 0 (run_cut members u))) (own_marks members u)

-- The law: so it is with each unit, where no offence stands.
abbrev pub UnitsHaveLists : Type 0
UnitsHaveLists = (source : Source) (ws : WorkspaceValue) (a : AnalysisValue) (members : List Part) (order : List ℕ) → IsAccepted source ws a members order
    → (u : UnitAnalysis) → IsIn a.units u → HavePrototypes members u → UnitHasLists members order u
