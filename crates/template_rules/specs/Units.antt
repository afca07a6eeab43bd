-- What inner functions promise each other of the units of an analysis, and of the functions there that a class names.
use Rattle.std.specs.Prelude.{ℕ, ◌≡◌, ◌==◌, ◌⊎◌, not, Bool, Some, List, [], ◌++◌, length, slice_get}
use Rattle.std.specs.List.{flat_map}
use Rattle.c_types.specs.declared.parameters.ParameterList.{ParameterList}
use Rattle.c_types.specs.Parameters.{parameters_in}
use Rattle.analysis.specs.Analysis.{UnitAnalysis}
use Rattle.template_rules.specs.declared.unit_functions.UnitFunctions.{UnitFunctions}
use Rattle.template_rules.specs.declared.file_lists.FoundList.{FoundList}
use Rattle.offences.specs.Class.{ClassValue}
use Rattle.template_rules.specs.FileLists.{function_list}
use Rattle.template_rules.specs.ScopeOffences.{body_lists_in}

-- what is told of a unit's tree: its parameter lists, and where those lists end whose names bodies begin with
abbrev pub AreOfTree : UnitAnalysis → List ParameterList → List ℕ → Type 0
AreOfTree u lists ends = (lists ≡ parameters_in u.tree.under) × (ends ≡ body_lists_in u.tree.under)

-- The unit with its functions is this unit. Where it has none of them, nothing of its tree is asked.
pub record IsUnit (u : UnitAnalysis) (f : UnitFunctions) : Type 0 where
  pub of_text : f.text.now ≡ u.text
  pub of_bound : f.bound.now ≡ u.bound
  pub of_tree : (f.entities ≡ []) ⊎ AreOfTree u f.lists f.ends.items

-- it is unit number k of these, from 0
abbrev pub IsUnitAt : List UnitAnalysis → ℕ → UnitFunctions → Type 0
IsUnitAt units k f = (u : UnitAnalysis) → slice_get units k ≡ Some u → IsUnit u f

-- These are the units of the analysis in order, with functions of the class.
pub record AreUnits (class : ClassValue) (fs : List UnitFunctions) : Type 0 where
  pub many : length fs ≡ length class.analysis.value.units
  pub own : (k : ℕ) (f : UnitFunctions) → slice_get fs k ≡ Some f → f.class ≡ class
  pub each : (k : ℕ) (f : UnitFunctions) → slice_get fs k ≡ Some f → IsUnitAt class.analysis.value.units k f

-- a unit has a function
abbrev pub has_some : UnitFunctions → Bool
has_some f = not (length f.entities == 0)

-- the lists of its functions in files
abbrev pub found_of : UnitFunctions → List FoundList
found_of f =
    flat_map (function_list f.class.members f.text.now.toks f.bound.now.names) f.bound.now.declarators
    ++ flat_map (function_list f.class.members f.text.now.toks f.bound.now.names) f.bound.now.calls
