-- What stands in the attributes of a declared name: what may count its parameters, and its names for the assembler.
use Rattle.std.specs.Prelude.{ℕ, Bool, true, false, ◌&&◌, ◌||◌, List, [], ◌++◌, map, Option, None, Some, if◌then◌else◌}
use Rattle.cs_base.specs.Token.{Token}
use Rattle.c99_tree.specs.Tree.{Forest, none, token, node, Node}
use Rattle.c99_tree.specs.declared.production.Label.{Label}
use Rattle.c99_tree.specs.declared.production.Production.{Production}
use Rattle.c99_tree.specs.declared.production.Production.TheVariants.{External, ExtRest, FunBody, Declaration, DeclRest, InitDecl, Specs, Members, Enumerators, Params, Attr, AttrItem, AsmName}
use Rattle.c_types.specs.Trees.{is_node, name_below}
use Rattle.c_types.specs.Shapes.{first_node, second_node}
use Rattle.c_types.specs.Declarations.{spelling_at}
use Rattle.gnu_lists.specs.declared.counted.Counted.{Counted}
use Rattle.gnu_lists.specs.declared.tokens.Mark.{Mark}
use Rattle.gnu_lists.specs.declared.tokens.Mark.TheVariants.{Name as a_name, Text as a_text, Count as a_count}
use Rattle.gnu_lists.specs.Words.{is_symbol_word}
use Rattle.gnu_lists.specs.Tokens.{attribute_name, marks_below}

-- what stands in these is not said of the name in front of them
abbrev pub is_inner : Production → Bool
is_inner Params = true
is_inner Members = true
is_inner Enumerators = true
is_inner FunBody = true
is_inner _ = false

abbrev pub counted : ℕ → ℕ → Counted
counted name k = record { name = name; index = k }

abbrev pub counted_by : Option ℕ → List ℕ → List Counted
counted_by None ks = []
counted_by (Some name) ks = map (counted name) ks

module _ (toks : List Token) where
  -- an attribute whose strings name a symbol
  abbrev pub is_symbol : Label → Forest → Bool
  is_symbol l under = is_node l AttrItem && is_symbol_word (spelling_at toks (attribute_name under))

  -- Where marked tokens are: numbers in attributes, and strings in those that name a symbol and in names for the
  -- assembler.
  abbrev pub is_marking : Mark → Label → Forest → Bool
  is_marking a_name l under = false
  is_marking a_text l under = is_node l AsmName || is_symbol l under
  is_marking a_count l under = is_node l AttrItem

  -- the marked tokens that are said of a name, in a part of its declaration
  abbrev pub marks_in : Mark → Forest → List ℕ
  marks_in m none = []
  marks_in m (token i rest) = marks_in m rest
  marks_in m (node l first under rest) =
      (if is_marking m l under then marks_below toks m under else (if is_inner l.production then [] else marks_in m under))
      ++ marks_in m rest

  -- those of the name of a declarator, where some stand before it
  abbrev pub told_of : Mark → List ℕ → Option Node → List Counted
  told_of m before None = []
  told_of m before (Some n) = counted_by (name_below n.label n.under) (before ++ marks_in m n.under)

  -- .. which stands first
  abbrev pub told_first : Mark → List ℕ → Forest → List Counted
  told_first m before f = told_of m before (first_node f)

  -- those of the declarators of a list (6.7): some stand before all, and some directly in front of the next one
  abbrev pub told_each : Mark → List ℕ → List ℕ → Forest → List Counted
  told_each m before front none = []
  told_each m before front (token i rest) = told_each m before front rest
  told_each m before front (node l first under rest) =
      if is_node l InitDecl then told_first m (before ++ front) under ++ told_each m before [] rest
      else told_each m before (if is_node l Attr then front ++ marks_in m under else front) rest

  -- of those behind the first one
  abbrev pub told_tail : Mark → List ℕ → Option Node → List Counted
  told_tail m before None = []
  told_tail m before (Some n) = told_each m before [] n.under

  abbrev pub told_rest : Mark → List ℕ → Label → Forest → List Counted
  told_rest m before l under =
      if is_node l ExtRest then told_first m before under ++ told_tail m before (second_node under)
      else (if is_node l DeclRest then told_each m before [] under else [])

  abbrev pub told_rests : Mark → List ℕ → Forest → List Counted
  told_rests m before none = []
  told_rests m before (token i rest) = told_rests m before rest
  told_rests m before (node l first under rest) = told_rest m before l under ++ told_rests m before rest

  -- in the specifiers of a declaration
  abbrev pub marks_of_specs : Mark → Forest → List ℕ
  marks_of_specs m none = []
  marks_of_specs m (token i rest) = marks_of_specs m rest
  marks_of_specs m (node l first under rest) = (if is_node l Specs then marks_in m under else []) ++ marks_of_specs m rest

  -- those of the names that a declaration declares
  abbrev pub told_at : Mark → Label → Forest → List Counted
  told_at m l under =
      if is_node l External || is_node l Declaration then told_rests m (marks_of_specs m under) under else []
