-- What is marked among the tokens of attributes and of names for the assembler.
use Rattle.std.specs.Prelude.{ℕ, Bool, true, false, ◌||◌, List, [], ◌∷◌, ◌++◌, slice_get, if◌then◌else◌}
use Rattle.std.specs.Option.{option_map_or}
use Rattle.cs_base.specs.declared.tokens.Kind.{Kind}
use Rattle.cs_base.specs.declared.tokens.Kind.TheVariants.{Ident, Number, Str}
use Rattle.cs_base.specs.Token.{Token}
use Rattle.c99_tree.specs.Tree.{Forest, none, token, node}
use Rattle.c_types.specs.Trees.{first_token}
use Rattle.c_types.specs.Declarations.{spelling_at}
use Rattle.gnu_lists.specs.declared.tokens.Mark.{Mark}
use Rattle.gnu_lists.specs.declared.tokens.Mark.TheVariants.{Name as a_name, Text as a_text, Count as a_count}
use Rattle.gnu_lists.specs.Words.{is_naked}

-- ---- The name of an attribute

-- the token behind two others, or the one given
abbrev pub third_or : Forest → ℕ → ℕ
third_or (token n rest) k = n
third_or _ k = k

abbrev pub second_or : Forest → ℕ → ℕ
second_or (token b rest) k = third_or rest k
second_or _ k = k

-- the name behind `::`, or the one given: a list of arguments has at most one token before its arguments
abbrev pub name_behind : Forest → ℕ → ℕ
name_behind (token a rest) k = second_or rest k
name_behind _ k = k

-- the token that names an attribute
abbrev pub attribute_name : Forest → ℕ
attribute_name (node l first under rest) = name_behind rest (first_token under 0)
attribute_name _ = 0

-- ---- Kinds (6.4)

abbrev pub is_identifier_kind : Kind → Bool
is_identifier_kind Ident = true
is_identifier_kind _ = false

abbrev pub is_number_kind : Kind → Bool
is_number_kind Number = true
is_number_kind _ = false

abbrev pub is_string_kind : Kind → Bool
is_string_kind Str = true
is_string_kind _ = false

module _ (toks : List Token) where
  abbrev pub is_identifier : ℕ → Bool
  is_identifier k = option_map_or (λ t. is_identifier_kind t.kind) (slice_get toks k) false

  abbrev pub is_number : ℕ → Bool
  is_number k = option_map_or (λ t. is_number_kind t.kind) (slice_get toks k) false

  abbrev pub is_string : ℕ → Bool
  is_string k = option_map_or (λ t. is_string_kind t.kind) (slice_get toks k) false

  -- Identifiers; strings (6.4.5); numbers, which may be those of parameters, and the word of a function that counts
  -- on where its parameters are.
  abbrev pub is_marked : Mark → ℕ → Bool
  is_marked a_name k = is_identifier k
  is_marked a_text k = is_string k
  is_marked a_count k = is_number k || is_naked (spelling_at toks k)

  abbrev pub marked : Mark → ℕ → List ℕ
  marked m k = if is_marked m k then k ∷ [] else []

  -- the marked tokens among some children
  abbrev pub marks_among : Mark → Forest → List ℕ
  marks_among m none = []
  marks_among m (token i rest) = marked m i ++ marks_among m rest
  marks_among m (node l first under rest) = marks_among m rest

  -- .. and below them, in order
  abbrev pub marks_below : Mark → Forest → List ℕ
  marks_below m none = []
  marks_below m (token i rest) = marked m i ++ marks_below m rest
  marks_below m (node l first under rest) = marks_below m under ++ marks_below m rest
