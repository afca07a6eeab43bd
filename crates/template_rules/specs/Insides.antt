-- What happens inside a list that stands against a new order of its items (this project's): a line's number is put in,
-- or a tag or an enumerator is declared.
use Rattle.std.specs.Prelude.{if◌then◌else◌, List, [], ◌++◌}
use Rattle.std.specs.List.{flat_map}
use Rattle.cs_base.specs.declared.causes.Cause.TheVariants as cause
use Rattle.cs_base.specs.declared.positions.Part.{Part}
use Rattle.cs_base.specs.Token.{Token}
use Rattle.analysis.specs.Below.unit_steps.declared.events.Event.{Event}
use Rattle.c_types.specs.declared.lists.List.{List as NameList}
use Rattle.analysis.specs.Below.scope_bind.declared.bound.Name.{Name}
use Rattle.analysis.specs.Analysis.{UnitAnalysis, AnalysisValue}
use Rattle.offences.specs.declared.firsts.Offence.{Offence}
use Rattle.offences.specs.First.{standing}
use Rattle.template_rules.specs.Functions.{names_function}
use Rattle.template_rules.specs.MacroOffences.{line_number_places, replaced_place, pasted_place}
use Rattle.template_rules.specs.ScopeOffences.{declaration_places}

-- ---- lists

abbrev pub inside_offences : List Token → List Event → List Name → NameList → List Offence
inside_offences toks events names l =
    standing cause.LineNumber (line_number_places events l) ++ standing cause.DeclarationInArgument (declaration_places toks names l)

-- the same at a list of a function that the class names
abbrev pub list_insides : List Part → List Token → List Event → List Name → NameList → List Offence
list_insides members toks events names l = if names_function members toks names l.name then inside_offences toks events names l else []

abbrev pub unit_insides : List Part → UnitAnalysis → List Offence
unit_insides members u =
    flat_map (list_insides members u.text.toks u.text.events u.bound.names) u.bound.declarators
    ++ flat_map (list_insides members u.text.toks u.text.events u.bound.names) u.bound.calls

-- Those in all lists of the functions.
abbrev pub all_insides : List Part → AnalysisValue → List Offence
all_insides members a = flat_map (unit_insides members) a.units

-- ---- names that macros replace or make

abbrev pub unit_macro_names : List Part → UnitAnalysis → List Offence
unit_macro_names members u =
    standing cause.InMacro (flat_map (replaced_place members) u.text.events)
    ++ standing cause.InMacro (flat_map (pasted_place members) u.text.pasted)

-- Those of all units.
abbrev pub all_macro_names : List Part → AnalysisValue → List Offence
all_macro_names members a = flat_map (unit_macro_names members) a.units
