-- Prototypes of the functions (ISO/IEC 9899:1999, 6.7.5.3): where nothing stands against a new order, each declarator of one has a
-- parameter type list.
use Rattle.std.specs.Prelude.{ℕ, ◌≡◌, true, List}
use Rattle.cs_base.specs.declared.positions.Part.{Part}
use Rattle.c_types.specs.declared.lists.List.{List as NameList}
use Rattle.c_types.specs.Parameters.{parameters_in}
use Rattle.source_files.specs.Files.{Source}
use Rattle.unit_laws.specs.UnitLinks.{IsIn}
use Rattle.ws_file.specs.Workspace.{WorkspaceValue}
use Rattle.analysis.specs.Analysis.{UnitAnalysis, AnalysisValue}
use Rattle.template_rules.specs.NameOffences.{has_prototype}
use Rattle.template_meaning.specs.Accepted.{IsAccepted}
use Rattle.template_meaning.specs.Clear.{IsOwn}

-- The law: so it is with the list of each declarator of one of the functions, in each unit.
abbrev pub DeclaratorsHavePrototypes : Type 0
DeclaratorsHavePrototypes = (source : Source) (ws : WorkspaceValue) (a : AnalysisValue) (members : List Part) (order : List ℕ) → IsAccepted source ws a members order
    → (u : UnitAnalysis) → IsIn a.units u → (l : NameList) → IsIn u.bound.declarators l → IsOwn members u l → has_prototype (parameters_in u.tree.under) l.name ≡ true
