-- What names say against a new order of a function's parameters (this project's).
use Rattle.std.specs.Prelude.{ℕ, ◌==◌, ◌&&◌, ◌||◌, not, if◌then◌else◌, Bool, true, false, List, [], ◌++◌}
use Rattle.std.specs.List.{flat_map, list_any}
use Rattle.std.specs.Option.{option_map_or}
use Rattle.cs_base.specs.declared.causes.Cause.TheVariants as cause
use Rattle.cs_base.specs.declared.positions.Part.{Part}
use Rattle.cs_base.specs.declared.positions.Pos.{Pos}
use Rattle.cs_base.specs.Token.{Token}
use Rattle.c_types.specs.declared.lists.List.{List as NameList}
use Rattle.c_types.specs.declared.parameters.ParameterForm.{ParameterForm}
use Rattle.c_types.specs.declared.parameters.ParameterForm.TheVariants.{Types as types}
use Rattle.c_types.specs.declared.parameters.ParameterList.{ParameterList}
use Rattle.c_types.specs.Parameters.{parameters_in}
use Rattle.analysis.specs.Below.scope_bind.declared.bound.Name.{Name}
use Rattle.analysis.specs.Analysis.{UnitAnalysis, AnalysisValue}
use Rattle.offences.specs.declared.firsts.Offence.{Offence}
use Rattle.offences.specs.First.{standing}
use Rattle.template_rules.specs.Functions.{holds_at, place_of, declares_function}
use Rattle.template_rules.specs.Lists.{parameters_at}

-- a parameter type list that does not end in `...` (6.7.5.3)
abbrev pub is_prototype : ParameterForm → Bool
is_prototype types = true
is_prototype _ = false

abbrev pub has_prototype : List ParameterList → ℕ → Bool
has_prototype lists k = option_map_or (λ (p : ParameterList). is_prototype p.form) (parameters_at lists k) false

-- NoPrototype: the name of a declarator of a function that has no such list of its own
abbrev pub no_prototype_place : List Part → List Token → List Name → List ParameterList → Name → List Pos
no_prototype_place members toks names lists n =
    if declares_function members toks names n && not (has_prototype lists n.index) then place_of toks n.index else []

-- the name is directly called (6.5.2.2)
abbrev pub is_callee : List NameList → ℕ → Bool
is_callee calls k = list_any (λ (l : NameList). l.name == k) calls

-- FunctionAsValue: a name that holds a member, and neither declares a function nor is directly called
abbrev pub value_place : List Part → List Token → List Name → List NameList → Name → List Pos
value_place members toks names calls n =
    if holds_at members toks n.index && not (declares_function members toks names n || is_callee calls n.index) then place_of toks n.index else []

-- ---- names

abbrev pub name_offences : List Part → List Token → List Name → List NameList → List ParameterList → Name → List Offence
name_offences members toks names calls lists n =
    standing cause.NoPrototype (no_prototype_place members toks names lists n)
    ++ standing cause.FunctionAsValue (value_place members toks names calls n)

abbrev pub unit_names : List Part → UnitAnalysis → List Offence
unit_names members u =
    flat_map (name_offences members u.text.toks u.bound.names u.bound.calls (parameters_in u.tree.under)) u.bound.names

-- Those at all names of a workspace.
abbrev pub all_names : List Part → AnalysisValue → List Offence
all_names members a = flat_map (unit_names members) a.units
