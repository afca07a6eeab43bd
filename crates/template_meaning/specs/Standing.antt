-- What is so of the files and the units of a workspace, where nothing stands against a new order: where lists stand among tokens, and
-- how each unit goes on (this project's, over ISO/IEC 9899:1999, 5.1.1.2 phases 1 to 7).
use Rattle.std.specs.Prelude.{ℕ, ◌≡◌, List, [], length, Some, Ok}
use Rattle.cs_base.specs.declared.positions.Part.{Part}
use Rattle.cs_base.specs.declared.tokens.Kind.{Kind}
use Rattle.cs_base.specs.Token.{Token}
use Rattle.c99_grammar.specs.Dialects.{dialect}
use Rattle.c99_grammar.specs.Standard.{grammar}
use Rattle.c99_read.specs.Reading.{read_of}
use Rattle.scope_bind.specs.Bound.{Bound}
use Rattle.analysis.specs.Below.gnu_bind.Bound.{binding_by}
use Rattle.source_files.specs.Files.{Source}
use Rattle.source_files.specs.KeptFiles.{KeptValue, kept_at}
use Rattle.unit_laws.specs.UnitLinks.{IsIn}
use Rattle.ws_file.specs.Workspace.{WorkspaceValue, IsWorkspace}
use Rattle.analysis.specs.Analysis.{UnitAnalysis, AnalysisValue}
use Rattle.list_cuts.specs.Cuts.{IsOrder, arranged}
use Rattle.reordered_tree_laws.specs.Reordered.{reordered}
use Rattle.unit_laws.specs.Walking.{plains}
use Rattle.edited_unit_laws.specs.ReorderedAnalyses.{UnitCuts}
use Rattle.edited_unit_laws.specs.Workspaces.{PathCuts, PathsStand, UnitMarks}
use Rattle.template_rules.specs.FileLists.{all_found, lists_in}
use Rattle.template_meaning.specs.Accepted.{IsAccepted}
use Rattle.reordered.specs.Reorder.{HoldsLists}
use Rattle.reordered.specs.Reordered.{begins_list, unit_cut, moved_in, NamesMove}
use Rattle.template_meaning.specs.Editing.{edit_by}

-- ---- a unit

-- Tokens that are those of the unit in the new order, as they are read, are read by its standard to its tree, reordered, and bound
-- name for name as before.
pub record UnitGoesOn (members : List Part) (order : List ℕ) (u : UnitAnalysis) (toks : List Token) : Type 0 where
  pub bound : Bound
  pub reads : read_of (grammar (dialect u.standard)) toks ≡ Ok (reordered order (begins_list members u) u.tree)
  pub binds : binding_by u.standard toks (reordered order (begins_list members u) u.tree) ≡ Ok bound
  pub names : NamesMove (moved_in members order u) (length u.text.toks) u.bound.names bound.names

-- The law: so it is with each unit.
abbrev pub UnitsGoOn : Type 0
UnitsGoOn = (source : Source) (ws : WorkspaceValue) (a : AnalysisValue) (members : List Part) (order : List ℕ) → IsAccepted source ws a members order
    → (u : UnitAnalysis) → IsIn a.units u → (toks : List Token) → plains toks ≡ arranged order (unit_cut members u) (plains u.text.toks) → UnitGoesOn members order u toks

-- ---- all units and files

-- The lists of the functions stand in files, which the source holds, in units and in runs at these places.
pub record ListsHavePlaces (source : Source) (a : AnalysisValue) (members : List Part) (order : List ℕ) : Type 0 where
  pub paths : PathCuts
  pub cuts : UnitCuts
  pub same : (u : UnitAnalysis) → IsIn a.units u → (xs : List (Kind × List ℕ)) → arranged order (cuts u) xs ≡ arranged order (unit_cut members u) xs
  pub stand : PathsStand (edit_by members order a) source (length order) order paths
  pub marks : (u : UnitAnalysis) → IsIn a.units u → UnitMarks (length order) paths a.table (cuts u) u
  pub files : (number : ℕ) → (lists_in (all_found members a) number ≡ [] → ⊥) → (f : KeptValue) × (kept_at a.table number ≡ Some f)
  pub ordered : IsOrder (length order) order
  pub held : (f : KeptValue) → HoldsLists a members f → source f.path ≡ Some f.bytes

-- The law: so they do, where nothing stands against the order.
abbrev pub AcceptedListsHavePlaces : Type 0
AcceptedListsHavePlaces = (source : Source) (ws : WorkspaceValue) (a : AnalysisValue) (members : List Part) (order : List ℕ) → IsWorkspace ws
    → IsAccepted source ws a members order → ListsHavePlaces source a members order
