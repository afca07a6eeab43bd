-- Parameter lists of macros, and the lists of their calls, as they stand in a file (ISO/IEC 9899:1999, 6.10.3 paragraphs 4, 10 and
-- 11): each by the numbers of its tokens, from 0, that are its `(`, the commas between its items, and its `)`.
use Rattle.std.specs.Prelude.{ℕ, ◌+◌, ◌-◌, ◌&&◌, if◌then◌else◌, Bool, false, List, [], ◌∷◌, ◌++◌, drop, take, slice_get}
use Rattle.std.specs.List.{flat_map}
use Rattle.std.specs.Option.{option_map_or}
use Rattle.cs_base.specs.declared.positions.Pos.{Pos}
use Rattle.cs_base.specs.Token.{Token}
use Rattle.line_shape.specs.declared.items.Item.{Item}
use Rattle.line_shape.specs.Signs.{is_open}
use Rattle.list_cuts.specs.Cuts.{numbers}
use Rattle.analysis.specs.Below.source_files.KeptFiles.{KeptValue}
use Rattle.macro_rules.specs.Positions.{has}
use Rattle.macro_rules.specs.Files.{is_run, in_items}
use Rattle.macro_rules.specs.Levels.{closes, separates, level_behind}
use Rattle.macro_rules.specs.Macros.{in_define, has_list}

-- ---- lists among tokens

-- The marks of a list from token k on, behind those that are met, so many parentheses inside it being open: none if its `)` is
-- missing. Commas inside other parentheses separate no items.
unfoldable pub marks_from : List ℕ → ℕ → ℕ → List Token → List (List ℕ)
marks_from met level k [] = []
marks_from met level k (t ∷ toks) =
    if closes level t then (met ++ k ∷ []) ∷ []
    else marks_from (if separates level t then met ++ k ∷ [] else met) (level_behind level t) (k + 1) toks

-- token k is a `(`
abbrev pub is_open_at : List Token → ℕ → Bool
is_open_at toks k = option_map_or is_open (slice_get toks k) false

-- the list whose `(` is token k, if it is one and has its `)`
abbrev pub list_at : List Token → ℕ → List (List ℕ)
list_at toks k = if is_open_at toks k then marks_from (k ∷ []) 0 (k + 1) (drop (k + 1) toks) else []

-- ---- lists of macros and of their calls

-- a macro's own list, behind its name
abbrev pub own_list : List Pos → List Token → Item → List Token → Token → List (List ℕ)
own_list macros toks i line name = if has macros name.at && has_list line then list_at (take i.to toks) (i.from + 3) else []

abbrev pub own_lists : List Pos → List Token → Item → List (List ℕ)
own_lists macros toks i = in_define (own_list macros toks i) toks i

-- a name that is called stands at token k
abbrev pub is_called : List Pos → List Token → ℕ → Bool
is_called calls toks k = option_map_or (λ (t : Token). has calls t.at) (slice_get toks k) false

-- the list behind such a name, among the tokens up to the end of its run
abbrev pub call_list : List Pos → List Token → ℕ → List (List ℕ)
call_list calls toks k = if is_called calls toks k then list_at toks (k + 1) else []

abbrev pub call_lists : List Pos → List Token → Item → List (List ℕ)
call_lists calls toks i =
    if is_run i.kind then flat_map (call_list calls (take i.to toks)) (numbers i.from (i.to - i.from)) else []

-- Those of an item, and those of a file, in the order of their `(`: for macros and calls of names that stand there.
abbrev pub item_lists : List Pos → List Pos → List Token → Item → List (List ℕ)
item_lists macros calls toks i = own_lists macros toks i ++ call_lists calls toks i

abbrev pub lists_in : List Pos → List Pos → KeptValue → List (List ℕ)
lists_in macros calls f = in_items (item_lists macros calls) f
