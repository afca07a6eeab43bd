-- What the marks of a list say against a new order of its items (this project's): it stands in a file that is not edited,
-- it is one of `main`, it goes on behind a directive, or it has another length. A list's place is that of its name.
use Rattle.std.specs.Prelude.{ℕ, ◌==◌, ◌&&◌, nat_le, nat_lt, if◌then◌else◌, Bool, List, [], ◌∷◌, ◌++◌, codes}
use Rattle.std.specs.List.{flat_map, list_any}
use Rattle.std.specs.Option.{option_map_or}
use Rattle.std.specs.Str.{bytes_eq}
use Rattle.cs_base.specs.declared.causes.Cause.TheVariants as cause
use Rattle.cs_base.specs.declared.positions.Part.{Part}
use Rattle.cs_base.specs.declared.positions.Pos.{Pos}
use Rattle.cs_base.specs.Token.{Token}
use Rattle.analysis.specs.Below.unit_steps.declared.events.Reached.{Reached}
use Rattle.c_types.specs.declared.lists.List.{List as NameList}
use Rattle.c_types.specs.declared.parameters.ParameterList.{ParameterList}
use Rattle.c_types.specs.Parameters.{parameters_in}
use Rattle.c_types.specs.Declarations.{spelling_at}
use Rattle.analysis.specs.Below.scope_bind.declared.bound.Name.{Name}
use Rattle.analysis.specs.Analysis.{UnitAnalysis, AnalysisValue}
use Rattle.analysis.specs.Places.{is_read_only}
use Rattle.offences.specs.declared.firsts.Offence.{Offence}
use Rattle.offences.specs.First.{standing}
use Rattle.template_rules.specs.Functions.{origin_of, place_of, names_function}
use Rattle.template_rules.specs.Lists.{parameters_of, arguments_of}

-- ReadOnly: the `(` of a list in a read-only file or a pseudo file
abbrev pub read_only_at : AnalysisValue → Pos → List Pos
read_only_at a p = if is_read_only a.table a.workspace.readonly p.file then p ∷ [] else []

abbrev pub read_only_place : AnalysisValue → List Token → NameList → List Pos
read_only_place a toks l = option_map_or (read_only_at a) (origin_of toks l.begin) []

-- so many tokens were put out, those up to token l, and more than those before token k
abbrev pub is_between : ℕ → ℕ → ℕ → Bool
is_between k l before = nat_lt k before && nat_le before l

-- a list whose tokens were put out for two runs: some item is reached between them
abbrev pub is_across : List Reached → NameList → Bool
is_across reached l = list_any (λ (r : Reached). is_between l.name l.close r.before) reached

-- AcrossDirective: the name of such a list
abbrev pub across_place : List Token → List Reached → NameList → List Pos
across_place toks reached l = if is_across reached l then place_of toks l.name else []

-- ArgumentCount: the name of a list of another length than it is to have
abbrev pub count_place : ℕ → ℕ → List Token → NameList → List Pos
count_place count length toks l = if length == count then [] else place_of toks l.name

-- token k is spelled as the function that is called at program startup
abbrev pub is_main : List Token → ℕ → Bool
is_main toks k = bytes_eq (spelling_at toks k) (codes "main")

-- Reserved: the name of a list of such a function, whose parameters have their meaning from without (5.1.2.2.1)
abbrev pub main_place : List Token → NameList → List Pos
main_place toks l = if is_main toks l.name then place_of toks l.name else []

-- ---- lists

-- those at a list of so many items
abbrev pub mark_offences : AnalysisValue → ℕ → List Token → List Reached → ℕ → NameList → List Offence
mark_offences a count toks reached length l =
    standing cause.ReadOnly (read_only_place a toks l)
    ++ (standing cause.Reserved (main_place toks l)
    ++ (standing cause.AcrossDirective (across_place toks reached l) ++ standing cause.ArgumentCount (count_place count length toks l)))

-- those at the parameter list of a declarator, if it is one of a function that the class names
abbrev pub declarator_marks : List Part → AnalysisValue → ℕ → List Token → List Reached → List Name → List ParameterList → NameList → List Offence
declarator_marks members a count toks reached names lists l =
    if names_function members toks names l.name then mark_offences a count toks reached (parameters_of lists l.name) l else []

-- those at the argument list of a call of one
abbrev pub call_marks : List Part → AnalysisValue → ℕ → List Token → List Reached → List Name → NameList → List Offence
call_marks members a count toks reached names l =
    if names_function members toks names l.name then mark_offences a count toks reached (arguments_of l) l else []

abbrev pub unit_marks : List Part → AnalysisValue → ℕ → UnitAnalysis → List Offence
unit_marks members a count u =
    flat_map (declarator_marks members a count u.text.toks u.text.reached u.bound.names (parameters_in u.tree.under)) u.bound.declarators
    ++ flat_map (call_marks members a count u.text.toks u.text.reached u.bound.names) u.bound.calls

-- Those at all lists of the functions.
abbrev pub all_marks : List Part → AnalysisValue → ℕ → List Offence
all_marks members a count = flat_map (unit_marks members a count) a.units
