-- Calls in units of GNU C of functions that no unit of their project declares (this project's, over ISO/IEC 9899:1990, 6.3.2.2, and
-- ISO/IEC 9899:1999, 6.2.2): such a function is another program's, as a library's, and the calls alone would be renamed.
use Rattle.std.specs.Prelude.{ℕ, ◌≡◌, ◌&&◌, ◌==◌, not, if◌then◌else◌, Bool, List, [], ◌∷◌, slice_get}
use Rattle.std.specs.List.{flat_map, list_any}
use Rattle.std.specs.Option.{option_map_or}
use Rattle.std.specs.Str.{bytes_eq}
use Rattle.cs_base.specs.declared.positions.Part.{Part}
use Rattle.cs_base.specs.declared.positions.Pos.{Pos}
use Rattle.cs_base.specs.Token.{Token}
use Rattle.cs_base.specs.Units.{UnitValue}
use Rattle.analysis.specs.Below.c_types.declared.entity.Linkage.TheVariants.{External}
use Rattle.analysis.specs.Below.c_types.Declarations.{is_linkage}
use Rattle.analysis.specs.Below.scope_bind.declared.bound.Name.{Name}
use Rattle.analysis.specs.Below.scope_bind.Names.{linkage_at}
use Rattle.analysis.specs.Analysis.{UnitAnalysis, AnalysisValue}
use Rattle.rename_rules.specs.Tokens.{starts_in}
use Rattle.offences.specs.Tokens.{holds_member}

-- ---- Units in their projects

pub record ProjectUnit : Type 0 where
  pub project : List ℕ
  pub unit : UnitAnalysis

abbrev pub project_unit : List ℕ → UnitAnalysis → ProjectUnit
project_unit project u = record { project = project; unit = u }

-- the project of unit k of a workspace; a unit that it does not have is of that without a name
abbrev pub project_at : List UnitValue → ℕ → List ℕ
project_at units k = option_map_or (λ (unit : UnitValue). unit.project) (slice_get units k) []

-- units with their projects
abbrev pub project_units : List UnitValue → List UnitAnalysis → List ProjectUnit
project_units units [] = []
project_units [] (u ∷ us) = project_unit [] u ∷ project_units [] us
project_units (unit ∷ units) (u ∷ us) = project_unit unit.project u ∷ project_units units us

-- ---- What a project declares

-- a spelling in a project
pub record ProjectName : Type 0 where
  pub project : List ℕ
  pub text : List ℕ

abbrev pub project_name : List ℕ → List ℕ → ProjectName
project_name project text = record { project = project; text = text }

abbrev pub is_of : List ℕ → List ℕ → ProjectName → Bool
is_of project text n = bytes_eq n.project project && bytes_eq n.text text

-- the name declares something of external linkage
abbrev pub declares_external : List Name → Name → Bool
declares_external names n = n.declares && is_linkage (linkage_at names n.entity) External

-- the spelling of a token in the project, if it holds a member
abbrev pub held_name : List Part → List ℕ → Token → List ProjectName
held_name members project t = if holds_member members t then project_name project t.text ∷ [] else []

-- that of the token of such a name
abbrev pub declared_by : List Part → List ℕ → List Name → List Token → Name → List ProjectName
declared_by members project names toks n =
    if declares_external names n then option_map_or (held_name members project) (slice_get toks n.index) [] else []

abbrev pub declared_in : List Part → ProjectUnit → List ProjectName
declared_in members p = flat_map (declared_by members p.project p.unit.bound.names p.unit.text.toks) p.unit.bound.names

-- the spellings of a class by which units declare something of external linkage, in their projects
unfoldable pub declared : AnalysisValue → List Part → List ProjectName
declared a members = flat_map (declared_in members) (project_units a.workspace.units a.units)

-- one of these names is so spelled in the project
abbrev pub is_declared : List ProjectName → List ℕ → List ℕ → Bool
is_declared names project text = list_any (is_of project text) names

-- ---- Calls

-- A use that is the first name of its entity: a call that is taken to declare the function (ISO/IEC 9899:1990, 6.3.2.2), with external linkage.
abbrev pub declares_by_call : Name → Bool
declares_by_call n = not n.declares && (n.entity == n.index)

-- the members in a token, unless a unit of its project declares what is spelled so: that is the function which is called (ISO/IEC 9899:1999,
-- 6.2.2 paragraph 2)
abbrev pub undeclared_place : List Part → (List ℕ → Bool) → Token → List Pos
undeclared_place members known t = if known t.text then [] else starts_in members t

-- .. of the token of such a call
abbrev pub call_place : List Part → (List ℕ → Bool) → List Token → Name → List Pos
call_place members known toks n =
    if declares_by_call n then option_map_or (undeclared_place members known) (slice_get toks n.index) [] else []

-- Undeclared: the members in the calls of a unit that are taken to declare what no unit of its project declares
abbrev pub call_places : List Part → List ProjectName → ProjectUnit → List Pos
call_places members names p = flat_map (call_place members (is_declared names p.project) p.unit.text.toks) p.unit.bound.names

-- ---- What inner functions promise each other

-- The one list has these names, each once or more often, and no others.
abbrev pub HaveNames : List ProjectName → List ProjectName → Type 0
HaveNames known names = (test : ProjectName → Bool) → list_any test known ≡ list_any test names
