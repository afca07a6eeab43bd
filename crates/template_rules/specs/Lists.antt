-- Parameter lists and argument lists (this project's, over ISO/IEC 9899:1999, 6.5.2.2 and 6.7.5.3): how many items they
-- have, and the tokens that mark them.
use Rattle.std.specs.Prelude.{ℕ, ◌+◌, ◌==◌, ◌&&◌, ◌||◌, if◌then◌else◌, Bool, true, false, Option, Some, None, List, [], ◌∷◌, ◌++◌, find, length, map}
use Rattle.std.specs.List.{flat_map, list_any, list_all}
use Rattle.std.specs.Option.{option_map_or}
use Rattle.std.specs.declared.cmp.Ordering.{Ordering}
use Rattle.std.specs.declared.cmp.Ordering.TheVariants.{Less}
use Rattle.cs_base.specs.declared.positions.Part.{Part}
use Rattle.cs_base.specs.declared.positions.Pos.{Pos}
use Rattle.cs_base.specs.Token.{Token}
use Rattle.c_types.specs.declared.lists.List.{List as NameList}
use Rattle.c_types.specs.declared.parameters.ParameterForm.{ParameterForm}
use Rattle.c_types.specs.declared.parameters.ParameterForm.TheVariants.{Empty as empty, Identifiers as identifiers, Types as types, Ellipsis as ellipsis}
use Rattle.c_types.specs.declared.parameters.ParameterList.{ParameterList}
use Rattle.c_types.specs.Parameters.{parameters_in}
use Rattle.analysis.specs.Below.scope_bind.declared.bound.Name.{Name}
use Rattle.analysis.specs.Below.source_files.Files.{Table}
use Rattle.analysis.specs.Analysis.{UnitAnalysis, AnalysisValue}
use Rattle.offences.specs.First.{position_cmp}
use Rattle.template_rules.specs.declared.counting.Declarator.{Declarator}
use Rattle.template_rules.specs.Functions.{place_of, declares_function}

-- ---- parameters

-- among the parameters of a unit's declarators those of the declarator whose name is token k, if it has a list
abbrev pub parameters_at : List ParameterList → ℕ → Option ParameterList
parameters_at lists k = find (λ (p : ParameterList). p.name == k) lists

-- a parameter type list, which may end in `...`
abbrev pub has_types : ParameterForm → Bool
has_types types = true
has_types ellipsis = true
has_types _ = false

-- how many parameter declarations stand in it: `(void)` has one (6.7.5.3 paragraph 10)
abbrev pub declarations_in : ParameterList → ℕ
declarations_in p = if has_types p.form then length p.names else 0

abbrev pub parameters_of : List ParameterList → ℕ → ℕ
parameters_of lists k = option_map_or declarations_in (parameters_at lists k) 0

-- ---- arguments

-- how many arguments a call has
abbrev pub arguments_of : NameList → ℕ
arguments_of l = if l.close == l.begin + 1 then 0 else length l.commas + 1

-- ---- marks

-- the parentheses of a list, and the commas between its items
abbrev pub separators : NameList → List ℕ
separators l = l.begin ∷ (l.commas ++ l.close ∷ [])

-- the token passes a test at its name, its parentheses and each comma
abbrev pub each_mark : (ℕ → Bool) → NameList → Bool
each_mark test l = test l.name && (test l.begin && (list_all test l.commas && test l.close))

-- it does so at one of them
abbrev pub some_mark : (ℕ → Bool) → NameList → Bool
some_mark test l = test l.name || (test l.begin || (list_any test l.commas || test l.close))

-- ---- the number of parameters

-- a declarator of a function: where its name stands, and how many parameters it has
abbrev pub declarator : ℕ → Pos → Declarator
declarator count at = record { at = at; count = count }

-- the declarator that a name is in, where it declares one of the functions
abbrev pub declarator_of : List Part → List Token → List Name → List ParameterList → Name → List Declarator
declarator_of members toks names lists n =
    if declares_function members toks names n then map (declarator (parameters_of lists n.index)) (place_of toks n.index) else []

abbrev pub declarators_in : List Part → UnitAnalysis → List Declarator
declarators_in members u =
    flat_map (declarator_of members u.text.toks u.bound.names (parameters_in u.tree.under)) u.bound.names

-- of two declarators the one whose name stands first, and the former where they stand at one place
abbrev pub is_less : Ordering → Bool
is_less Less = true
is_less _ = false

abbrev pub sooner : Table → Option Declarator → Declarator → Declarator
sooner table best d = option_map_or (λ (b : Declarator). if is_less (position_cmp table d.at b.at) then d else b) best d

-- the first of a declarator, if there is one, and of those behind it
unfoldable pub soonest : Table → Option Declarator → List Declarator → Option Declarator
soonest table best [] = best
soonest table best (d ∷ ds) = soonest table (Some (sooner table best d)) ds

-- The first declarator by its place.
abbrev pub first_declarator : AnalysisValue → List Part → Option Declarator
first_declarator a members = soonest a.table None (flat_map (declarators_in members) a.units)

-- The number of its parameters.
abbrev pub count_of : AnalysisValue → List Part → ℕ
count_of a members = option_map_or (λ (d : Declarator). d.count) (first_declarator a members) 0
