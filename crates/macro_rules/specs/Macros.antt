-- The macros that a class names (this project's, over ISO/IEC 9899:1999, 6.10.3): those of the `define` lines that some unit
-- processes and whose whole name is one member of the class; and what replaces a name.
use Rattle.std.specs.Prelude.{ℕ, ◌-◌, ◌==◌, ◌&&◌, ◌||◌, not, if◌then◌else◌, Bool, true, false, Option, Some, None, List, [], ◌∷◌, codes, drop, length, slice_get}
use Rattle.std.specs.List.{flat_map, list_any}
use Rattle.std.specs.Option.{option_map_or, unwrap_or}
use Rattle.std.specs.Str.{bytes_eq}
use Rattle.cs_base.specs.declared.positions.Part.{Part}
use Rattle.cs_base.specs.declared.positions.Pos.{Pos}
use Rattle.cs_base.specs.Token.{Token, origin_at}
use Rattle.line_shape.specs.declared.items.Item.{Item}
use Rattle.line_shape.specs.Signs.{is_ellipsis}
use Rattle.line_shape.specs.MacroLine.{is_function_like, before_close, behind_close, has_named_rest, params_in}
use Rattle.analysis.specs.Below.unit_steps.declared.events.Event.{Event}
use Rattle.analysis.specs.Below.unit_steps.declared.events.EventKind.{EventKind}
use Rattle.analysis.specs.Below.unit_steps.declared.events.EventKind.TheVariants as kind
use Rattle.analysis.specs.Below.source_files.Files.{Table}
use Rattle.analysis.specs.Analysis.{UnitAnalysis, AnalysisValue}
use Rattle.offences.specs.Tokens.{member_of}
use Rattle.macro_rules.specs.declared.heads.Head.{Head}
use Rattle.macro_rules.specs.Positions.{is_pos, has}
use Rattle.macro_rules.specs.Files.{is_define, item_toks, in_all_items}
use Rattle.macro_rules.specs.Levels.{paired}

-- what is found at each event of all units
abbrev pub in_events : {X : Type 0} → (Event → List X) → AnalysisValue → List X
in_events find a = flat_map (λ (u : UnitAnalysis). flat_map find u.text.events) a.units

-- ---- lines that define

-- the part is the whole token
abbrev pub is_all : Token → Part → Bool
is_all t m = option_map_or (is_pos m.start) (origin_at t 0) false && m.len == length t.text

-- the whole token is one member
abbrev pub is_whole : List Part → Token → Bool
is_whole members t = option_map_or (is_all t) (member_of members (origin_at t 0)) false

-- `__LINE__` and `__FILE__` (6.10.8), and `__COUNTER__` of GNU C: where no line defines them yet they are replaced too,
-- without a link
abbrev pub is_predefined : Token → Bool
is_predefined t = (bytes_eq t.text (codes "__LINE__") || bytes_eq t.text (codes "__FILE__")) || bytes_eq t.text (codes "__COUNTER__")

abbrev pub names_macro : List Part → Token → Bool
names_macro members t = is_whole members t && not (is_predefined t)

abbrev pub is_defining : EventKind → Bool
is_defining kind.Defined = true
is_defining _ = false

-- where a line defines a macro of the class
abbrev pub defined_place : List Part → Event → List Pos
defined_place members e = if is_defining e.kind && option_map_or (names_macro members) e.name false then e.at ∷ [] else []

-- the names of the macros of a class, where lines define them
abbrev pub macro_places : List Part → AnalysisValue → List Pos
macro_places members a = in_events (defined_place members) a

-- ---- names that are replaced

abbrev pub is_replacing : EventKind → Bool
is_replacing kind.Replaced = true
is_replacing _ = false

-- one of the macros whose names stand here replaces a name
abbrev pub replaces : List Pos → Event → Bool
replaces macros e = is_replacing e.kind && option_map_or (has macros) e.def false

-- that name stands in a file, and comes from no macro
abbrev pub is_direct : Event → Bool
is_direct e = option_map_or (λ (t : Token). t.direct) e.name false

-- where such a name stands
abbrev pub called_place : List Pos → Event → List Pos
called_place macros e = if replaces macros e && is_direct e then e.at ∷ [] else []

abbrev pub called_places : List Part → AnalysisValue → List Pos
called_places members a = in_events (called_place (macro_places members a)) a

-- where a name stands that one of some macros replaces
abbrev pub replaced_place : List Pos → Event → List Pos
replaced_place macros e = if replaces macros e then e.at ∷ [] else []

-- where `__LINE__` is replaced by the number of its line (6.10.8), or `__COUNTER__` of GNU C by the next number of the unit
abbrev pub is_line_number : EventKind → Option Pos → Option Token → Bool
is_line_number kind.Replaced None (Some name) = bytes_eq name.text (codes "__LINE__") || bytes_eq name.text (codes "__COUNTER__")
is_line_number _ _ _ = false

abbrev pub number_place : Event → List Pos
number_place e = if is_line_number e.kind e.def e.name then e.at ∷ [] else []

abbrev pub number_places : AnalysisValue → List Pos
number_places a = in_events number_place a

-- ---- `define` lines, by their tokens: `#`, the word, the name, and what stands behind it

-- the tokens between the parentheses of a function-like macro
abbrev pub list_of : List Token → List Token
list_of line = before_close (drop 4 line)

abbrev pub has_list : List Token → Bool
has_list line = is_function_like (drop 3 line)

-- how many names that a list has are no parameter: in GNU C the one in front of `...` names the rest
abbrev pub rests_of : List Token → ℕ
rests_of list = if has_named_rest list then 1 else 0

-- how many parameters it has, `...` not counted, nor the name of a rest
abbrev pub parameters_of : List Token → ℕ
parameters_of line = if has_list line then length (params_in (list_of line)) - rests_of (list_of line) else 0

-- it has a list that does not end in `...`
abbrev pub is_fixed : List Token → Bool
is_fixed line = has_list line && not (list_any is_ellipsis (list_of line))

-- its replacement list
abbrev pub body_of : List Token → List Token
body_of line = if has_list line then unwrap_or (behind_close (drop 4 line)) [] else drop 3 line

-- what is found in a line that defines a macro, given its tokens and its name
abbrev pub in_define : {X : Type 0} → (List Token → Token → List X) → List Token → Item → List X
in_define find toks i =
    if is_define i.kind then option_map_or (find (item_toks toks i)) (slice_get (item_toks toks i) 2) [] else []

-- the name of a macro in whose replacement list parentheses do not pair
abbrev pub loose_place : List Token → Token → List Pos
loose_place line name = if paired 0 (body_of line) then [] else name.at ∷ []

abbrev pub loose_places : Table → List Pos
loose_places table = in_all_items (in_define loose_place) table

-- where a name stands that such a macro replaces: a list that is put out as it stands would be torn by what it puts in
abbrev pub torn_places : AnalysisValue → List Pos
torn_places a = in_events (replaced_place (loose_places a.table)) a

-- ---- the macros of a class

-- the beginning of a line that defines a macro of the class
abbrev pub head_of : List Token → Token → Head
head_of line name = record { at = name.at; count = parameters_of line; fixed = is_fixed line }

abbrev pub own_head : List Pos → List Token → Token → List Head
own_head macros line name = if has macros name.at then head_of line name ∷ [] else []

-- The macros of a class, in the order of files.
abbrev pub heads_of : List Pos → Table → List Head
heads_of macros table = in_all_items (in_define (own_head macros)) table
