-- What stands against a new order of the parameters of the functions that a class names, and of the arguments of their
-- calls (this project's): offences, each at the places where it stands.
use Rattle.std.specs.Prelude.{ℕ, if◌then◌else◌, List, [], ◌++◌}
use Rattle.std.specs.List.{flat_map}
use Rattle.cs_base.specs.declared.causes.Cause.TheVariants as cause
use Rattle.cs_base.specs.declared.positions.Part.{Part}
use Rattle.cs_base.specs.declared.positions.Pos.{Pos}
use Rattle.c_types.specs.declared.lists.List.{List as NameList}
use Rattle.c_types.specs.declared.parameters.ParameterList.{ParameterList}
use Rattle.c_types.specs.Parameters.{parameters_in}
use Rattle.analysis.specs.Below.scope_bind.Bound.{Bound}
use Rattle.analysis.specs.Below.unit_steps.Texts.{UnitTextValue}
use Rattle.analysis.specs.Analysis.{UnitAnalysis, AnalysisValue}
use Rattle.offences.specs.declared.firsts.Offence.{Offence}
use Rattle.offences.specs.First.{standing}
use Rattle.template_rules.specs.Functions.{names_function}
use Rattle.template_rules.specs.GnuOffences.{gnu_offences}
use Rattle.template_rules.specs.Marks.{all_marks}
use Rattle.template_rules.specs.NameOffences.{all_names}
use Rattle.template_rules.specs.Insides.{all_insides, all_macro_names}
use Rattle.template_rules.specs.MacroOffences.{macro_place}
use Rattle.template_rules.specs.ScopeOffences.{body_lists_in, body_place, dependence_places}
use Rattle.template_rules.specs.LineOffences.{odd_positions, odd_places}

-- what stands at a list beside what its marks say and what happens inside it
abbrev pub list_offences : List Part → AnalysisValue → List Pos → UnitTextValue → NameList → List Offence
list_offences members a odds text l =
    standing cause.InMacro (macro_place members a text.toks text.reached l) ++ standing cause.OddToken (odd_places a.table odds text l)

-- the same at the parameter list of a declarator, if it is one of a function that the class names
abbrev pub declarator_offences : List Part → AnalysisValue → List Pos → UnitTextValue → Bound → List ParameterList → NameList → List Offence
declarator_offences members a odds text bound lists l =
    if names_function members text.toks bound.names l.name
    then list_offences members a odds text l
    ++ standing cause.ParameterDependence (dependence_places text.toks bound.names bound.bare lists l)
    else []

-- and at the argument list of a call of one
abbrev pub call_offences : List Part → AnalysisValue → List Pos → UnitTextValue → Bound → List ℕ → NameList → List Offence
call_offences members a odds text bound ends l =
    if names_function members text.toks bound.names l.name
    then list_offences members a odds text l ++ standing cause.DeclarationInArgument (body_place text.toks ends l)
    else []

abbrev pub unit_lists : List Part → AnalysisValue → List Pos → UnitAnalysis → List Offence
unit_lists members a odds u =
    flat_map (declarator_offences members a odds u.text u.bound (parameters_in u.tree.under)) u.bound.declarators
    ++ flat_map (call_offences members a odds u.text u.bound (body_lists_in u.tree.under)) u.bound.calls

-- Those at all lists of the functions.
abbrev pub all_lists : List Part → AnalysisValue → List Offence
all_lists members a = flat_map (unit_lists members a (odd_positions a.table)) a.units

-- All offences against a new order of so many items, in no order.
abbrev pub offences_of : AnalysisValue → List Part → ℕ → List Offence
offences_of a members count =
    all_names members a
    ++ (all_marks members a count ++ (all_macro_names members a
    ++ (all_insides members a ++ (all_lists members a ++ gnu_offences members a))))
