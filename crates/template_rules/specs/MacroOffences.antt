-- What macros say against a new order of items (this project's, over ISO/IEC 9899:1999, 6.10.3 and 6.10.8): a list that
-- comes from one, or that some processing of its text takes for something else; and numbers of lines inside a list.
use Rattle.std.specs.Prelude.{ℕ, ◌+◌, ◌-◌, ◌==◌, ◌&&◌, ◌||◌, not, nat_le, if◌then◌else◌, Bool, true, false, Option, Some, None, List, [], ◌∷◌, codes, count_by, length, slice_get}
use Rattle.std.specs.List.{flat_map, list_any, list_all}
use Rattle.std.specs.Option.{option_map_or}
use Rattle.std.specs.Str.{bytes_eq}
use Rattle.cs_base.specs.declared.positions.Part.{Part}
use Rattle.cs_base.specs.declared.positions.Pos.{Pos}
use Rattle.cs_base.specs.Token.{Token}
use Rattle.analysis.specs.Below.line_shape.Signs.{is_name}
use Rattle.analysis.specs.Below.unit_steps.declared.events.Event.{Event}
use Rattle.analysis.specs.Below.unit_steps.declared.events.EventKind.{EventKind}
use Rattle.analysis.specs.Below.unit_steps.declared.events.EventKind.TheVariants as kind
use Rattle.analysis.specs.Below.unit_steps.declared.events.Reached.{Reached}
use Rattle.c_types.specs.declared.lists.List.{List as NameList}
use Rattle.analysis.specs.Below.unit_steps.Texts.{UnitTextValue}
use Rattle.analysis.specs.Below.scope_bind.declared.bound.Name.{Name}
use Rattle.analysis.specs.Below.scope_bind.Bound.{Bound}
use Rattle.analysis.specs.Analysis.{UnitAnalysis, AnalysisValue}
use Rattle.offences.specs.Tokens.{holds_member, first_place}
use Rattle.list_cuts.specs.Cuts.{numbers}
use Rattle.template_rules.specs.Functions.{origin_of, place_of, names_function}
use Rattle.template_rules.specs.Lists.{each_mark, some_mark}
use Rattle.template_rules.specs.Marks.{is_between}

-- ---- InMacro, of lists

abbrev pub is_direct_at : List Token → ℕ → Bool
is_direct_at toks k = option_map_or (λ (t : Token). t.direct) (slice_get toks k) false

-- no mark of the list comes from a macro
abbrev pub is_direct : List Token → NameList → Bool
is_direct toks l = each_mark (is_direct_at toks) l

abbrev pub is_pos : Pos → Pos → Bool
is_pos p q = p.file == q.file && p.at == q.at

-- both are positions, and the same one
abbrev pub is_same : Option Pos → Option Pos → Bool
is_same (Some p) (Some q) = is_pos p q
is_same _ _ = false

-- tokens of one unit stand at the same positions as these of another
abbrev pub are_same : List Token → List Token → List ℕ → List ℕ → Bool
are_same toks others [] [] = true
are_same toks others (j ∷ js) (k ∷ ks) = is_same (origin_of toks j) (origin_of others k) && are_same toks others js ks
are_same toks others _ _ = false

-- the name, the parentheses and the commas of a list stand at the same positions as those of another
abbrev pub is_same_list : List Token → List Token → NameList → NameList → Bool
is_same_list toks others l m =
    is_same (origin_of toks l.name) (origin_of others m.name)
    && (is_same (origin_of toks l.begin) (origin_of others m.begin)
    && (is_same (origin_of toks l.close) (origin_of others m.close) && are_same toks others l.commas m.commas))

-- how many items were reached before token k was put out: the last of them is the run that it was put out for
abbrev pub run_of : List Reached → ℕ → ℕ
run_of reached k = count_by (λ (r : Reached). nat_le r.before k) reached

-- that run
abbrev pub item_of : List Reached → ℕ → Option Reached
item_of reached k = slice_get reached (run_of reached k - 1)

-- the same item of the same file
abbrev pub is_item : Reached → Reached → Bool
is_item r s = r.file == s.file && r.item == s.item

-- the mark stands at the position, and was put out for this reached item, counted from 1
abbrev pub is_mark_in : List Token → List Reached → Option Pos → ℕ → ℕ → Bool
is_mark_in toks reached p number k = is_same (origin_of toks k) p && run_of reached k == number

-- a list of one of the functions stands at the same positions, with such a mark
abbrev pub is_list_at : List Part → List Token → NameList → ℕ → UnitTextValue → List Name → ℕ → NameList → Bool
is_list_at members toks l k text names number m =
    is_same_list toks text.toks l m && (names_function members text.toks names m.name
    && some_mark (is_mark_in text.toks text.reached (origin_of toks k) number) m)

abbrev pub is_list_in : List Part → List Token → NameList → ℕ → UnitTextValue → Bound → ℕ → Bool
is_list_in members toks l k text bound number =
    list_any (is_list_at members toks l k text bound.names number) bound.declarators
    || list_any (is_list_at members toks l k text bound.names number) bound.calls

-- if reached item number j, from 0, is the same item of its file
abbrev pub is_list_as : List Part → List Token → NameList → ℕ → Reached → UnitTextValue → Bound → ℕ → Bool
is_list_as members toks l k r text bound j =
    not (option_map_or (is_item r) (slice_get text.reached j) false) || is_list_in members toks l k text bound (j + 1)

-- in each processing of the item in a unit
abbrev pub is_list_through : List Part → List Token → NameList → ℕ → Reached → UnitTextValue → Bound → Bool
is_list_through members toks l k r text bound = list_all (is_list_as members toks l k r text bound) (numbers 0 (length text.reached))

-- in whatever unit
abbrev pub is_list_for : List Part → AnalysisValue → List Token → NameList → ℕ → Reached → Bool
is_list_for members a toks l k r = list_all (λ (u : UnitAnalysis). is_list_through members toks l k r u.text u.bound) a.units

-- In each processing of the run for which mark k was put out, in whatever unit, a list of the functions stands at the
-- positions of this one: a run that one unit processes twice is asked twice.
abbrev pub is_mark_everywhere : List Part → AnalysisValue → List Token → List Reached → NameList → ℕ → Bool
is_mark_everywhere members a toks reached l k = option_map_or (is_list_for members a toks l k) (item_of reached k) false

-- the name of a list that comes from a macro, or that is none in some processing of its runs
abbrev pub macro_place : List Part → AnalysisValue → List Token → List Reached → NameList → List Pos
macro_place members a toks reached l =
    if is_direct toks l && each_mark (is_mark_everywhere members a toks reached l) l then [] else place_of toks l.name

-- ---- InMacro, of names

abbrev pub is_replacing : EventKind → Bool
is_replacing kind.Replaced = true
is_replacing _ = false

-- a token that holds a member, where it begins
abbrev pub held_place : List Part → Token → List Pos
held_place members t = if holds_member members t then first_place t else []

-- a name that a macro replaces, in a condition or an include line too
abbrev pub replaced_place : List Part → Event → List Pos
replaced_place members e = if is_replacing e.kind then option_map_or (held_place members) e.name [] else []

-- a name that was pasted (6.10.3.3)
abbrev pub pasted_place : List Part → Token → List Pos
pasted_place members t = if is_name t then held_place members t else []

-- ---- LineNumber

-- `__LINE__` is replaced by the number of its line (6.10.8), or `__COUNTER__` of GNU C by the next number of the unit: where no
-- line defines them, their macros stand in no file
abbrev pub is_line_number : EventKind → Option Pos → Option Token → Bool
is_line_number kind.Replaced None (Some name) = bytes_eq name.text (codes "__LINE__") || bytes_eq name.text (codes "__COUNTER__")
is_line_number _ _ _ = false

-- inside the list: its `(` is among the tokens put out before, and its `)` is not
abbrev pub line_number_place : NameList → Event → List Pos
line_number_place l e = if is_line_number e.kind e.def e.name && is_between l.begin l.close e.before then e.at ∷ [] else []

abbrev pub line_number_places : List Event → NameList → List Pos
line_number_places events l = flat_map (line_number_place l) events
